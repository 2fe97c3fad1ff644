-- At each moment of a run both sides may go on with what was delivered, and after each step nothing whole of it is left.
use Rattle.std.specs.Prelude.{if◌then◌else◌}
use Rattle.std.proofs.Common.{◌≡◌, ℕ, ◌≤◌, List, [], ◌∷◌, length, refl, ap, arith, Some, None}
use Rattle.std.proofs.lemmas.Bool.{lt-leb}
use Rattle.wire_base.specs.declared.frame.Version.{Version}
use Rattle.wire_base.specs.declared.frame.Version.TheVariants as version
use Rattle.mux_run.specs.Run.{Terms, SideTerms, terms_at_a, terms_at_b, out, greeting_size, greet}
use Rattle.mux_run.specs.Linked.{Joined}
use Rattle.mux_run.specs.declared.steps.Side.{Side}
use Rattle.mux_run.specs.declared.steps.Side.TheVariants.{A, B}
use Rattle.mux_run.proofs.Links.{fresh_joined, turned_joined}
use Rattle.endpoint_items.specs.Items.{Mux}
use Rattle.endpoint_items.specs.Layers.{mux_of}
use Rattle.endpoint_run.specs.Next.{next_item}
use Rattle.endpoint_run.specs.Run.{EndSide, EndWorld, EndStep, mux_side, begun, side_in, turns_of, side_after, side_of, happens_at, happens, in_step_at, start, run_from, end_run}
use Rattle.endpoint_run.specs.Moments.{Moment, After, Within, at_moment, IsNewer}
use Rattle.endpoint_run.specs.Finer.{mux_a, mux_b}
use Rattle.endpoint_run.specs.Settled.{NothingIsLeft, IsSettled, turns_at, TakesTurnsEnough, IsWithinRun}
use Rattle.endpoint_run.proofs.Boundary.{run_side}
use Rattle.endpoint_run.proofs.Refining.{fresh_boundary}
use Rattle.endpoint_run.proofs.Growing.{side_newer}
use Rattle.endpoint_run.proofs.Underway.{HasApplied, IsUnderway, underway_settled, underway_begun}
use Rattle.endpoint_run.proofs.Settling.{settles, turns_enough, still_none}
use Rattle.endpoint_run.proofs.Emitted.{frames_grow, out_grows, begun_emitted}

-- a step of x

side_underway : (w : SideTerms) (turns : ℕ) (s : EndStep) (x y : EndSide) (e : ℕ) → IsUnderway w x.delivered (run_side (mux_of w.version y.items) e) x.items
    → IsUnderway w (side_in w turns s x y).delivered (run_side (mux_of w.version y.items) e) (side_in w turns s x y).items
side_underway w turns s x y e h =
    let b = begun w s x y in
    underway_settled w b.delivered (run_side (mux_of w.version y.items) e) turns b.items (underway_begun w s x y e h)

side_settles : (w : SideTerms) (s : EndStep) (x y : EndSide) (e : ℕ) → IsUnderway w x.delivered (run_side (mux_of w.version y.items) e) x.items → NothingIsLeft w (side_after w s x y) y
side_settles w s x y e h =
    let b = begun w s x y in
    settles w b.delivered (run_side (mux_of w.version y.items) e) (turns_of w s x y) b.items (underway_begun w s x y e h) (omega arith)

side_enough : (w : SideTerms) (s : EndStep) (x y : EndSide) (e turns : ℕ) → IsUnderway w x.delivered (run_side (mux_of w.version y.items) e) x.items → turns_of w s x y ≤ turns → side_in w turns s x y ≡ side_after w s x y
side_enough w s x y e turns h more =
    let b = begun w s x y in
    ap (λ items. record { items = items; delivered = b.delivered }) (turns_enough w b.delivered (mux_side w.version y) (turns_of w s x y) turns b.items more (side_settles w s x y e h))

-- what y does leaves nothing to x that wasn't left
other_settled : (w : SideTerms) (x y after : EndSide) → IsNewer y.items after.items → x.delivered ≤ length (out w.version w.peer (mux_of w.version y.items)) → NothingIsLeft w x y → NothingIsLeft w x after
other_settled w x y after g h e =
    let more = frames_grow w.version y.items after.items g in
    still_none w x.delivered x.items (mux_side w.version y) (mux_side w.version after) more.0 more.1 h e

other_emitted : (w : SideTerms) (x y after : EndSide) → IsNewer y.items after.items → x.delivered ≤ length (out w.version w.peer (mux_of w.version y.items)) → x.delivered ≤ length (out w.version w.peer (mux_of w.version after.items))
other_emitted w x y after g h = omega (arith, h, out_grows w.version w.peer y.items after.items g)

-- both sides, with what the finer run gave them
pub record AreUnderway (terms : Terms) (w : EndWorld) : Type 0 where
  pub fine_a : ℕ
  pub fine_b : ℕ
  pub joined : Joined (terms_at_a terms) (run_side (mux_a terms w) fine_a) (run_side (mux_b terms w) fine_b)
  pub a : HasApplied (terms_at_a terms) w.a.delivered fine_a w.a.items
  pub b : HasApplied (terms_at_b terms) w.b.delivered fine_b w.b.items
  pub emitted_a : w.a.delivered ≤ length (out terms.version terms.nonce_b (mux_b terms w))
  pub emitted_b : w.b.delivered ≤ length (out terms.version terms.nonce_a (mux_a terms w))

pub underway_a : (terms : Terms) (w : EndWorld) (h : AreUnderway terms w) → IsUnderway (terms_at_a terms) w.a.delivered (run_side (mux_b terms w) h.fine_b) w.a.items
underway_a terms w h = record { fine = h.fine_a; joined = h.joined; applied = h.a }

pub underway_b : (terms : Terms) (w : EndWorld) (h : AreUnderway terms w) → IsUnderway (terms_at_b terms) w.b.delivered (run_side (mux_a terms w) h.fine_a) w.b.items
underway_b terms w h = record {
  fine = h.fine_b;
  joined = turned_joined (terms_at_a terms) (run_side (mux_a terms w) h.fine_a) (run_side (mux_b terms w) h.fine_b) h.joined;
  applied = h.b;
}

step_underway : (terms : Terms) (turns : ℕ) (side : Side) (s : EndStep) (w : EndWorld) → AreUnderway terms w → AreUnderway terms (in_step_at terms turns side s w)
step_underway terms turns A s w h =
    let at = terms_at_a terms in
    let after = side_in at turns s w.a w.b in
    let on = side_underway at turns s w.a w.b h.fine_b (underway_a terms w h) in
    record {
      fine_a = on.fine;
      fine_b = h.fine_b;
      joined = on.joined;
      a = on.applied;
      b = h.b;
      emitted_a = begun_emitted at s w.a w.b h.emitted_a;
      emitted_b = other_emitted (terms_at_b terms) w.b w.a after (side_newer at turns s w.a w.b) h.emitted_b;
    }
step_underway terms turns B s w h =
    let at = terms_at_b terms in
    let after = side_in at turns s w.b w.a in
    let on = side_underway at turns s w.b w.a h.fine_a (underway_b terms w h) in
    record {
      fine_a = h.fine_a;
      fine_b = on.fine;
      joined = turned_joined at (run_side (mux_of terms.version after.items) on.fine) (run_side (mux_a terms w) h.fine_a) on.joined;
      a = h.a;
      b = on.applied;
      emitted_a = other_emitted (terms_at_a terms) w.a w.b after (side_newer at turns s w.b w.a) h.emitted_a;
      emitted_b = begun_emitted at s w.b w.a h.emitted_b;
    }

happens_underway : (terms : Terms) (side : Side) (s : EndStep) (w : EndWorld) → AreUnderway terms w → AreUnderway terms (happens_at terms side s w)
happens_underway terms A s w h = step_underway terms (turns_of (terms_at_a terms) s w.a w.b) A s w h
happens_underway terms B s w h = step_underway terms (turns_of (terms_at_b terms) s w.b w.a) B s w h

fresh_applied : (w : SideTerms) → HasApplied w 0 0 []
fresh_applied w = record { boundary = fresh_boundary w; within = λ r. (let at = (fresh_boundary w).at r in omega (arith, at)); allowed = tt; most = omega arith }

start_underway : (terms : Terms) → AreUnderway terms start
start_underway terms = record {
  fine_a = 0;
  fine_b = 0;
  joined = fresh_joined (terms_at_a terms);
  a = fresh_applied (terms_at_a terms);
  b = fresh_applied (terms_at_b terms);
  emitted_a = omega arith;
  emitted_b = omega arith;
}

from_underway : (terms : Terms) (w : EndWorld) (steps : List EndStep) → AreUnderway terms w → AreUnderway terms (run_from terms w steps)
from_underway terms w [] h = h
from_underway terms w (s ∷ steps) h = from_underway terms (happens terms s w) steps (happens_underway terms (side_of s) s w h)

pub run_underway : (terms : Terms) (steps : List EndStep) → AreUnderway terms (end_run terms steps)
run_underway terms steps = from_underway terms start steps (start_underway terms)

moment_underway : (terms : Terms) (steps : List EndStep) (moment : Moment) → AreUnderway terms (at_moment terms steps moment)
moment_underway terms steps After = run_underway terms steps
moment_underway terms steps (Within s turns) = step_underway terms turns (side_of s) s (end_run terms steps) (run_underway terms steps)

pub run_within : (terms : Terms) (steps : List EndStep) → IsWithinRun terms steps
run_within terms steps moment =
    let h = moment_underway terms steps moment in
    record { a = record { applied = h.a.within; emitted = h.emitted_a }; b = record { applied = h.b.within; emitted = h.emitted_b } }

-- after each step nothing whole is left

happens_settled : (terms : Terms) (side : Side) (s : EndStep) (w : EndWorld) → AreUnderway terms w → IsSettled terms w → IsSettled terms (happens_at terms side s w)
happens_settled terms A s w h z =
    let at = terms_at_a terms in
    let turns = turns_of at s w.a w.b in
    record {
      a = side_settles at s w.a w.b h.fine_b (underway_a terms w h);
      b = other_settled (terms_at_b terms) w.b w.a (side_after at s w.a w.b) (side_newer at turns s w.a w.b) h.emitted_b z.b;
    }
happens_settled terms B s w h z =
    let at = terms_at_b terms in
    let turns = turns_of at s w.b w.a in
    record {
      a = other_settled (terms_at_a terms) w.a w.b (side_after at s w.b w.a) (side_newer at turns s w.b w.a) h.emitted_a z.a;
      b = side_settles at s w.b w.a h.fine_a (underway_b terms w h);
    }

-- a fresh end of version 3 needs no handshake, and that of another version has none yet
fresh_none : (w : SideTerms) → next_item w 0 (run_side [] 0) [] ≡ None
fresh_none w = by w.version refl
  where
    at : Version → SideTerms
    at v = record { version = v; own = w.own; peer = w.peer }

    by : (v : Version) → w.version ≡ v → next_item (at v) 0 (run_side [] 0) [] ≡ None
    by version.One e = ap (λ b. if b then Some (Mux (greet (at version.One))) else None) (lt-leb (greeting_size (at version.One)) 0 (omega arith))
    by version.Two e = ap (λ b. if b then Some (Mux (greet (at version.Two))) else None) (lt-leb (greeting_size (at version.Two)) 0 (omega arith))
    by version.Three e = refl

from_settled : (terms : Terms) (w : EndWorld) (steps : List EndStep) → AreUnderway terms w → IsSettled terms w → IsSettled terms (run_from terms w steps)
from_settled terms w [] h z = z
from_settled terms w (s ∷ steps) h z = from_settled terms (happens terms s w) steps (happens_underway terms (side_of s) s w h) (happens_settled terms (side_of s) s w h z)

pub run_settled : (terms : Terms) (steps : List EndStep) → IsSettled terms (end_run terms steps)
run_settled terms steps = from_settled terms start steps (start_underway terms) (record { a = fresh_none (terms_at_a terms); b = fresh_none (terms_at_b terms) })

enough_at : (terms : Terms) (side : Side) (s : EndStep) (w : EndWorld) (turns : ℕ) → AreUnderway terms w → turns_at terms side s w ≤ turns → in_step_at terms turns side s w ≡ happens_at terms side s w
enough_at terms A s w turns h more = ap (λ x. record { a = x; b = w.b }) (side_enough (terms_at_a terms) s w.a w.b h.fine_b turns (underway_a terms w h) more)
enough_at terms B s w turns h more = ap (λ x. record { a = w.a; b = x }) (side_enough (terms_at_b terms) s w.b w.a h.fine_a turns (underway_b terms w h) more)

pub run_enough : (terms : Terms) (steps : List EndStep) (s : EndStep) → TakesTurnsEnough terms s (end_run terms steps)
run_enough terms steps s turns more = enough_at terms (side_of s) s (end_run terms steps) turns (run_underway terms steps) more
