-- What each step of a run leaves of the bytes that were delivered, and where those lie that were applied.
use Rattle.std.specs.Prelude.{◌≡◌, ◌≤◌, ℕ, List, length, true, None}
use Rattle.mux_run.specs.Run.{Terms, SideTerms, terms_at_a, terms_at_b, out}
use Rattle.mux_run.specs.declared.steps.Side.{Side}
use Rattle.mux_run.specs.declared.steps.Side.TheVariants.{A, B}
use Rattle.endpoint_items.specs.Layers.{mux_of}
use Rattle.endpoint_run.specs.Next.{next_item, applied_bytes}
use Rattle.endpoint_run.specs.Run.{EndSide, EndWorld, EndStep, mux_side, runs, turns_of, side_of, happens, in_step}
use Rattle.endpoint_run.specs.Moments.{Moment, at_moment}

-- nothing whole is left to the side x of y: no handshake or frame of what was delivered to it, and no message of what its connections read
abbrev pub NothingIsLeft : SideTerms → EndSide → EndSide → Type 0
NothingIsLeft w x y = next_item w x.delivered (mux_side w.version y) x.items ≡ None

-- nothing whole is left to either side
pub record IsSettled (terms : Terms) (w : EndWorld) : Type 0 where
  pub a : NothingIsLeft (terms_at_a terms) w.a w.b
  pub b : NothingIsLeft (terms_at_b terms) w.b w.a

-- how many turns the step takes
abbrev pub turns_at : Terms → Side → EndStep → EndWorld → ℕ
turns_at terms A s w = turns_of (terms_at_a terms) s w.a w.b
turns_at terms B s w = turns_of (terms_at_b terms) s w.b w.a

-- more turns of it change nothing
abbrev pub TakesTurnsEnough : Terms → EndStep → EndWorld → Type 0
TakesTurnsEnough terms s w = (turns : ℕ) → turns_at terms (side_of s) s w ≤ turns → in_step terms turns s w ≡ happens terms s w

-- what the side x of y applied while it runs lies in what was delivered to it, and that in what y emitted
pub record LiesWithin (w : SideTerms) (x y : EndSide) : Type 0 where
  pub applied : runs w.version x ≡ true → applied_bytes w (mux_of w.version x.items) ≤ x.delivered
  pub emitted : x.delivered ≤ length (out w.version w.peer (mux_of w.version y.items))

-- so it is at both sides
pub record AreWithin (terms : Terms) (w : EndWorld) : Type 0 where
  pub a : LiesWithin (terms_at_a terms) w.a w.b
  pub b : LiesWithin (terms_at_b terms) w.b w.a

-- at each moment after these steps
abbrev pub IsWithinRun : Terms → List EndStep → Type 0
IsWithinRun terms steps = (moment : Moment) → AreWithin terms (at_moment terms steps moment)
