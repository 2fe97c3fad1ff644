-- Worked values: an exchange keeps the rules, and a call that reads a channel in use breaks them.
use Rattle.std.specs.Prelude.{◌∷◌}
use Rattle.std.specs.Str.{is_utf8, chars}
use lib.Utf8.{encode}
use Rattle.std.proofs.Common.{refl}
use Rattle.wire_base.specs.declared.frame.Version.TheVariants as version
use Rattle.wire_base.specs.Tokens.{head_at, token_at, inner_at, field_at, bytes_at}
use Rattle.wire_base.specs.Head.{lettered}
use Rattle.pack_value.specs.Answer as pack
use Rattle.pack_value.specs.Reading.{run_at, text_at, cut_head, key_at, repeat, pair_at, behind, value_at, items_at, pairs_at}
use Rattle.mux_items.specs.Items.{DidRead}
use Rattle.message_framing.specs.Front.{front}
use Rattle.message_framing.specs.Wrapped.{head_text}
use Rattle.endpoint_items.specs.Items.{Mux}
use Rattle.endpoint_items.specs.Allowed.{AreAllowed}
use Rattle.endpoint_items.proofs.Attached.{mux_allowed}
use Rattle.endpoint_items.proofs.Worked.{here, live, attached, asked, came, replied}

live_keeps : AreAllowed version.Three live
live_keeps = (((record { ready = refl; running = refl; unrefused = refl }, refl, (refl, refl, tt)), refl), (((refl, refl, tt), refl), tt))

attached_keeps : AreAllowed version.Three attached
attached_keeps = (refl, live_keeps)

asked_keeps : AreAllowed version.Three asked
asked_keeps = (refl, attached_keeps)

came_keeps : AreAllowed version.Three came
unfolding head_text
came_keeps = (((record { ready = refl; running = refl; unrefused = refl }, refl, mux_allowed version.Three asked asked_keeps), refl), asked_keeps)

replied_keeps : AreAllowed version.Three replied
unfolding front head_text pack.front head_at token_at inner_at field_at bytes_at lettered run_at text_at cut_head key_at repeat pair_at behind value_at items_at pairs_at is_utf8 chars encode
replied_keeps = (record { attached = refl; room = refl; stands = refl }, came_keeps)

-- a channel in use isn't read by calls of the multiplexing end
read_breaks : AreAllowed version.Three (Mux (DidRead here 1) ∷ attached) → ⊥
read_breaks a = absurd (cc a.0.1)
