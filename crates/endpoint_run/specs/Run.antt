-- The run of a list of steps: what happened at each of two joined ends with connections.
use Rattle.std.specs.Prelude.{ℕ, ◌+◌, List, [], ◌∷◌, Bool, not, if◌then◌else◌}
use Rattle.wire_base.specs.declared.frame.Version.{Version}
use Rattle.wire_base.specs.declared.state.Cause.{Cause}
use Rattle.wire_base.specs.declared.state.Cause.TheVariants as cause
use Rattle.mux_items.specs.Items.{is_running}
use Rattle.mux_items.specs.Items as mux
use Rattle.mux_run.specs.Run.{RunSide, Terms, SideTerms, terms_at_a, terms_at_b, added, is_spent}
use Rattle.mux_run.specs.declared.steps.Side.{Side}
use Rattle.mux_run.specs.declared.steps.Side.TheVariants.{A, B}
use Rattle.endpoint_items.specs.Items.{EndItem, Mux}
use Rattle.endpoint_items.specs.Layers.{mux_of}
use Rattle.endpoint_items.specs.Calls.{EndCall, called}
use Rattle.endpoint_run.specs.Next.{settled_in, bytes_left}

-- one side: its items, newest first, and how many of the other side's bytes were delivered to it
pub record EndSide : Type 0 where
  pub items : List EndItem
  pub delivered : ℕ

pub record EndWorld : Type 0 where
  pub a : EndSide
  pub b : EndSide

-- a call at a side, the next bytes of the other side to it, at most so many, or the end of the stream into it
pub data EndStep : Type 0 where
  Calls : (side : Side) → (call : EndCall) → EndStep
  Delivers : (side : Side) → (count : ℕ) → EndStep
  Ends : (side : Side) → EndStep

-- the multiplexing end of a side
abbrev pub mux_side : Version → EndSide → RunSide
mux_side v x = record { items = mux_of v x.items; delivered = x.delivered }

-- whether the end of this side runs
abbrev pub runs : Version → EndSide → Bool
runs v x = is_running (mux_of v x.items)

-- a side with one more item
abbrev pub with_item : EndItem → EndSide → EndSide
with_item item x = record { items = item ∷ x.items; delivered = x.delivered }

-- a side whose end ends for this cause, if it runs
abbrev pub stopped : Version → Cause → EndSide → EndSide
stopped v cause x = if runs v x then with_item (Mux (mux.End cause)) x else x

-- a running side to which at most n more bytes were delivered; one that would pass the most bytes of an end is spent
abbrev pub given_to : SideTerms → (n : ℕ) → EndSide → EndSide → EndSide
given_to w n x y =
    if not (runs w.version x) then x
    else if is_spent w n (mux_side w.version x) (mux_side w.version y) then with_item (Mux (mux.End cause.Spent)) x
    else record { items = x.items; delivered = x.delivered + added w n (mux_side w.version x) (mux_side w.version y) }

-- the side x of a step, before it applies anything
abbrev pub begun : SideTerms → EndStep → EndSide → EndSide → EndSide
begun w (Calls side c) x y = record { items = called w.version c x.items; delivered = x.delivered }
begun w (Delivers side n) x y = given_to w n x y
begun w (Ends side) x y = stopped w.version cause.InputEnded x

-- a side after so many turns
abbrev pub after_turns : SideTerms → (turns : ℕ) → EndSide → EndSide → EndSide
after_turns w turns x y = record { items = settled_in w x.delivered (mux_side w.version y) turns x.items; delivered = x.delivered }

-- the side x of a step after so many turns of it
abbrev pub side_in : SideTerms → (turns : ℕ) → EndStep → EndSide → EndSide → EndSide
side_in w turns s x y = after_turns w turns (begun w s x y) y

-- how many turns a step takes
abbrev pub turns_of : SideTerms → EndStep → EndSide → EndSide → ℕ
turns_of w s x y = bytes_left w (begun w s x y).delivered (begun w s x y).items

-- what a step makes of its side x
abbrev pub side_after : SideTerms → EndStep → EndSide → EndSide → EndSide
side_after w s x y = side_in w (turns_of w s x y) s x y

abbrev pub side_of : EndStep → Side
side_of (Calls side c) = side
side_of (Delivers side n) = side
side_of (Ends side) = side

abbrev pub happens_at : Terms → Side → EndStep → EndWorld → EndWorld
happens_at terms A s w = record { a = side_after (terms_at_a terms) s w.a w.b; b = w.b }
happens_at terms B s w = record { a = w.a; b = side_after (terms_at_b terms) s w.b w.a }

-- what a step makes of both sides
abbrev pub happens : Terms → EndStep → EndWorld → EndWorld
happens terms s w = happens_at terms (side_of s) s w

abbrev pub in_step_at : Terms → (turns : ℕ) → Side → EndStep → EndWorld → EndWorld
in_step_at terms turns A s w = record { a = side_in (terms_at_a terms) turns s w.a w.b; b = w.b }
in_step_at terms turns B s w = record { a = w.a; b = side_in (terms_at_b terms) turns s w.b w.a }

-- a moment in a step: its side took so many turns
abbrev pub in_step : Terms → (turns : ℕ) → EndStep → EndWorld → EndWorld
in_step terms turns s w = in_step_at terms turns (side_of s) s w

abbrev pub fresh : EndSide
fresh = record { items = []; delivered = 0 }

abbrev pub start : EndWorld
start = record { a = fresh; b = fresh }

abbrev pub run_from : Terms → EndWorld → List EndStep → EndWorld
run_from terms w [] = w
run_from terms w (s ∷ steps) = run_from terms (happens terms s w) steps

-- both sides after these steps
abbrev pub end_run : Terms → List EndStep → EndWorld
end_run terms steps = run_from terms start steps
