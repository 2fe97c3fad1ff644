-- A side whose end has ended stays as it is, but for reads.
use Rattle.std.specs.Prelude.{ℕ, List, ◌∷◌, length, Bool, true, false, not, ◌&&◌, nat_le, if◌then◌else◌, Option, Some, None, is_none}
use Rattle.std.proofs.Common.{◌≡◌, ◌+◌, refl, ◌∙◌, ap}
use Rattle.wire_base.specs.declared.refusal.Refusal.{Refusal}
use Rattle.wire_base.specs.declared.frame.Version.{Version}
use Rattle.wire_base.specs.declared.state.Cause.{Cause}
use Rattle.wire_base.specs.declared.state.Cause.TheVariants as cause
use Rattle.mux_items.specs.declared.call.Call.{Call}
use Rattle.mux_items.specs.declared.call.Call.TheVariants as call
use Rattle.mux_items.specs.Items.{Item, End, ended, is_running}
use Rattle.mux_items.specs.Due.{got}
use Rattle.mux_items.specs.Refusals.{is_ready, unless_ended}
use Rattle.mux_items.specs.Calls.{item_of_call, unless_refused, called}
use Rattle.mux_run.specs.Run.{RunSide, runs, SideTerms, greeting_size, greet, greeted, apply_frames, place_after, next_frames, settled, added, is_spent, side_after}
use Rattle.mux_run.specs.Spending.{is_read}
use Rattle.mux_run.specs.declared.steps.Side.{Side}
use Rattle.mux_run.specs.declared.steps.Step.{Step}
use Rattle.mux_run.specs.declared.steps.Step.TheVariants as step
use Rattle.mux_run.proofs.Growing.{apply_frames_stopped}

refused_ended : (o : Option Cause) (otherwise : Option Refusal) (item : Item) (items : List Item) → is_none o ≡ false → unless_refused (unless_ended o otherwise) item items ≡ items
refused_ended (Some cause) otherwise item items e = refl
refused_ended None otherwise item items e = absurd cc

called_ended : (v : Version) (side : Side) (c : Call) (items : List Item) → is_running items ≡ false → is_read (step.Call side c) ≡ false → called v c items ≡ items
called_ended v side (call.Offer name size) items e other = refused_ended (ended items) _ (item_of_call (call.Offer name size) items) items e
called_ended v side (call.Accept c size) items e other = refused_ended (ended items) _ (item_of_call (call.Accept c size) items) items e
called_ended v side (call.Write c bytes) items e other = refused_ended (ended items) _ (item_of_call (call.Write c bytes) items) items e
called_ended v side (call.Read c max) items e other = absurd cc
called_ended v side (call.Complete c) items e other = refused_ended (ended items) _ (item_of_call (call.Complete c) items) items e
called_ended v side (call.Terminate c) items e other = refused_ended (ended items) _ (item_of_call (call.Terminate c) items) items e

greeted_ended : (w : SideTerms) (given : ℕ) (items : List Item) → is_running items ≡ false → greeted w given items ≡ items
greeted_ended w given items e = ap (λ b. if b && not (is_ready w.version items) && nat_le (greeting_size w) given then greet w ∷ items else items) e

settled_ended : (w : SideTerms) (given : ℕ) (items : List Item) (y : RunSide) → is_running items ≡ false → settled w given items y ≡ record { items = items; delivered = given }
settled_ended w given items y e = ap (λ after. record { items = applied after; delivered = given }) (greeted_ended w given items e) ∙ ap (λ after. record { items = after; delivered = given }) (by (is_ready w.version items))
  where
    applied : List Item → List Item
    applied after = if is_ready w.version after then apply_frames w.version (place_after w (length (got after)) y) (next_frames w given (length (got after)) y) after else after

    by : (ready : Bool) → (if ready then apply_frames w.version (place_after w (length (got items)) y) (next_frames w given (length (got items)) y) items else items) ≡ items
    by true = apply_frames_stopped w.version (place_after w (length (got items)) y) (next_frames w given (length (got items)) y) items e
    by false = refl

pub ended_stays : (w : SideTerms) (s : Step) (x y : RunSide) → runs x ≡ false → is_read s ≡ false → side_after w s x y ≡ x
ended_stays w (step.Call side c) x y e other = ap (λ items. settled w x.delivered items y) (called_ended w.version side c x.items e other) ∙ settled_ended w x.delivered x.items y e
ended_stays w (step.Deliver side n) x y e other = ap (λ b. if not b then x else if is_spent w n x y then record { items = End cause.Spent ∷ x.items; delivered = x.delivered } else settled w (x.delivered + added w n x y) x.items y) e
ended_stays w (step.End side) x y e other = ap (λ b. if b then record { items = End cause.InputEnded ∷ x.items; delivered = x.delivered } else x) e
