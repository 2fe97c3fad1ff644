use Rattle.std.proofs.Common.{◌++◌, option_map, string_bytes, sym, ap, ◌∙◌}
use Rattle.serde_json.specs.View.{view, members_view}
use Rattle.json_value.specs.Reading.{pair_list}
use Rattle.json_value.proofs.Readings.{member_read}
use Rattle.json_value.proofs.reader.+turn.Goals as goal

pub pairs_of-loop-key-preserved : goal.pairs_of-loop-key-preserved
pairs_of-loop-key-preserved t c =
    let done = c.loop-key.pairs in
    let read = member_read done (string_bytes c.in-Some.key.now) (view c.in-Some.member.now) c.in-Some-2.value (members_view c.next.new.self) (sym c.in_ok-value.ensures ∙ c.in-Some-2.is) in
    let one_off = ap (λ es. option_map (λ ps. done ++ ps) (pair_list (members_view es))) c.in-Some.ensures.steps in
    rw (c.in_ok-push.ensures.ok, c.in_ok-key.ensures, c.as_str.ensures.value) (c.loop-key.invariant ∙ one_off ∙ read)
