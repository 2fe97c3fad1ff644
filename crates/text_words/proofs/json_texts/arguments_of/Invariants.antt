use Rattle.std.proofs.Common.{◌≡◌, map, take}
use Rattle.text_words.specs.Json.{arg_of}
use Rattle.text_words.proofs.json_texts.arguments_of.Given as goal

abbrev pub invariant-loop-value : goal.invariant-loop-value
invariant-loop-value l = (l.value-items ≡ l.values) × (l.args ≡ map arg_of (take l.value-index l.value-items))
