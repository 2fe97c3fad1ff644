use Rattle.std.proofs.Common.{sym, ◌∙◌, refl}
use Rattle.std.specs.List.{flat_map}
use Rattle.mux_items.specs.Views.{known_keys}
use Rattle.endpoint_items.specs.Layers.{mux_of}
use Rattle.text_words.specs.Written.{name_at, is_same_side}
use Rattle.transcript.specs.Report.{known_lines, keys_of}
use Rattle.transcript.proofs.Channels.{lines_more, told_all}
use Rattle.transcript.proofs.summary.push_channels.Goals as goal

pub loop-i-init : goal.loop-i-init
loop-i-init c = λ items at rest s. refl

pub returns-in_default : goal.returns-in_default
returns-in_default c = λ items at rest s.
    told_all (λ keys. flat_map (known_lines c.args.end.now.mux.version c.args.side items) (keys_of c.args.side c.args.offering keys)) (known_keys (mux_of c.args.end.now.mux.version items)) c.loop-i.i _ _
    (sym (c.known.ensures items at rest s) ∙ c.in_default.is) refl (c.loop-i.invariant items at rest s)

pub loop-i-preserved : goal.loop-i-preserved
loop-i-preserved c = λ items at rest s.
    lines_more (known_lines c.args.end.now.mux.version c.args.side items) (λ key. is_same_side (name_at c.args.side key).offering c.args.offering) (known_keys (mux_of c.args.end.now.mux.version items)) c.loop-i.i c.in-Some.key _ _ _
    (sym (c.known.ensures items at rest s) ∙ c.in-Some.is) (c.in_ok-push_known.ensures items at rest s) (c.loop-i.invariant items at rest s)
