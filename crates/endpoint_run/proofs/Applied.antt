-- How many of the peer's bytes calls leave applied: as many as before.
use Rattle.std.specs.Prelude.{if◌then◌else◌}
use Rattle.std.proofs.Common.{◌≡◌, ◌+◌, List, [], ◌∷◌, length, map, refl, ◌∙◌, ap}
use Rattle.mux_items.specs.declared.call.Call.{Call}
use Rattle.mux_items.specs.Bodies.{flip, frame_texts}
use Rattle.mux_items.specs.Calls.{called}
use Rattle.mux_items.specs.Due.{got}
use Rattle.mux_items.specs.Items.{Item, is_running}
use Rattle.mux_items.specs.Refusals.{is_ready}
use Rattle.mux_run.specs.Run.{SideTerms, greeting_size}
use Rattle.endpoint_items.specs.Following.{followed}
use Rattle.endpoint_run.specs.Next.{applied_bytes}
use Rattle.endpoint_run.proofs.Boundary.{running_called, got_called, ready_called}

called_applied : (w : SideTerms) (c : Call) (m : List Item) → applied_bytes w (called w.version c m) ≡ applied_bytes w m
called_applied w c m =
    ap (λ r. if r then greeting_size w + length (frame_texts w.version (map flip (got (called w.version c m)))) else 0) (ready_called w.version c m)
    ∙ ap (λ fs. if is_ready w.version m then greeting_size w + length (frame_texts w.version (map flip fs)) else 0) (got_called w.version c m)

pub followed_applied : (w : SideTerms) (calls : List Call) (m : List Item) → applied_bytes w (followed w.version calls m) ≡ applied_bytes w m
followed_applied w [] m = refl
followed_applied w (c ∷ calls) m = followed_applied w calls (called w.version c m) ∙ called_applied w c m

pub followed_running : (w : SideTerms) (calls : List Call) (m : List Item) → is_running (followed w.version calls m) ≡ is_running m
followed_running w [] m = refl
followed_running w (c ∷ calls) m = followed_running w calls (called w.version c m) ∙ running_called w.version c m
