-- Where all that was emitted was delivered, the run of finer steps is in the very same world.
use Rattle.std.specs.Prelude.{if◌then◌else◌, nat_le, Bool, true, false}
use Rattle.std.proofs.Common.{◌≡◌, ℕ, ◌+◌, ◌-◌, ◌<◌, List, [], ◌++◌, length, take, drop, map, refl, sym, ◌∙◌, ap, subst, arith, length-append, Some, None}
use Rattle.std.proofs.lemmas.Bool.{leb-false}
use Rattle.std.proofs.lemmas.List.{append-nil, take_all}
use Rattle.frame_text.specs.Hello.{hello}
use Rattle.mux_items.specs.Bodies.{ChannelFrame, flip, frame_texts}
use Rattle.mux_items.specs.Due.{sent, got}
use Rattle.mux_items.specs.Items.{Item, is_running}
use Rattle.mux_items.specs.Refusals.{is_ready}
use Rattle.mux_run.specs.Between.{ahead}
use Rattle.mux_run.specs.Linked.{Linked, Joined}
use Rattle.mux_run.specs.Run.{RunSide, Terms, SideTerms, terms_at_a, terms_at_b, out, greeting_size, greet, whole_frames, next_frames, place_after}
use Rattle.mux_run.specs.Spending.{RunStep, run_through}
use Rattle.mux_run.proofs.Links.{through_joined}
use Rattle.mux_run.proofs.WholeFrames.{whole_all}
use Rattle.mux_credit.specs.Runs.{IsQuiet, IsAllDelivered}
use Rattle.mux_credit.proofs.Runs.{through_keeps_credit}
use Rattle.endpoint_items.specs.Items.{EndItem, Mux}
use Rattle.endpoint_items.specs.Layers.{mux_of}
use Rattle.endpoint_items.specs.Arriving.{either, next_message}
use Rattle.endpoint_run.specs.Next.{first_frame, next_of_peer, next_item}
use Rattle.endpoint_run.specs.Run.{EndStep, end_run}
use Rattle.endpoint_run.specs.Moments.{After}
use Rattle.endpoint_run.specs.Finer.{mux_a, mux_b}
use Rattle.endpoint_run.specs.Quiet.{mux_world, DeliversAll}
use Rattle.endpoint_run.proofs.Boundary.{run_side, AtBoundary, at_ready}
use Rattle.endpoint_run.proofs.Refining.{moment_refined}
use Rattle.endpoint_run.proofs.Settling.{either_none, none_first}
use Rattle.endpoint_run.proofs.Settled.{run_settled}

-- an end that runs, was given all that the other emitted and has nothing next applied all of it

all_peer : (w : SideTerms) (m : List Item) (y : RunSide) (given d : ℕ) → Linked w (run_side m d) y → AtBoundary w m d → is_running m ≡ true → given ≡ length (out w.version w.peer y.items) → next_of_peer w given m y ≡ None
    → d ≡ length (out w.version w.peer y.items)
all_peer w m y given d l b runs all = by (is_ready w.version m) refl
  where
    frames : List ChannelFrame
    frames = sent w.version y.items

    size : length (out w.version w.peer y.items) ≡ greeting_size w + length (frame_texts w.version frames)
    size = length-append (hello w.version w.peer) (frame_texts w.version frames)

    ungreeted : (t : Bool) → nat_le (greeting_size w) given ≡ t → (if t then Some (Mux (greet w)) else None) ≡ None → given < greeting_size w
    ungreeted true e g = cc
    ungreeted false e g = leb-false (greeting_size w) given e

    by : (t : Bool) → is_ready w.version m ≡ t
        → (if t then first_frame w.version (place_after w (length (got m)) y) m (next_frames w given (length (got m)) y) else if nat_le (greeting_size w) given then Some (Mux (greet w)) else None) ≡ None
        → d ≡ length (out w.version w.peer y.items)
    by true ready g =
        let gs = map flip (got m) in
        let left = ahead w.version m y.items in
        let none = none_first w.version (place_after w (length (got m)) y) m (next_frames w given (length (got m)) y) g in
        let whole : whole_frames w.version (given - greeting_size w) frames ≡ frames = whole_all w.version (given - greeting_size w) frames (omega (arith, all, size)) in
        let nothing : left ≡ [] = ap (drop (length (got m))) (sym whole) ∙ none in
        let sends : frames ≡ gs = l.applied ∙ (ap (λ fs. gs ++ fs) nothing ∙ append-nil gs) in
        let at = at_ready w m d b runs ready in
        omega (arith, at, size, ap (λ fs. length (frame_texts w.version fs)) sends)
    by false unready g = absurd (let less = ungreeted (nat_le (greeting_size w) given) refl g in omega (arith, less, all, size))

all_given : (w : SideTerms) (items : List EndItem) (y : RunSide) (given d : ℕ) → Linked w (run_side (mux_of w.version items) d) y → AtBoundary w (mux_of w.version items) d → is_running (mux_of w.version items) ≡ true
    → given ≡ length (out w.version w.peer y.items) → next_item w given y items ≡ None → d ≡ given
all_given w items y given d l b runs all none =
    let m = mux_of w.version items in
    let both = either_none (next_message w.version items) (next_of_peer w given m y) (ap (λ b. if b then either (next_message w.version items) (next_of_peer w given m y) else None) (sym runs) ∙ none) in
    all_peer w m y given d l b runs all both.1 ∙ sym all

-- the world of a quiet run is that of some finer steps

same_world : (terms : Terms) (steps : List EndStep) → IsQuiet terms (mux_world terms (end_run terms steps)) → (fine : List RunStep) × (run_through terms fine ≡ mux_world terms (end_run terms steps))
same_world terms steps q =
    let w = end_run terms steps in
    let on = moment_refined terms steps After in
    let r = on.1 in
    let z = run_settled terms steps in
    let j = subst (λ w. Joined (terms_at_a terms) w.a w.b) r.is (through_joined terms on.0) in
    let a = all_given (terms_at_a terms) w.a.items (run_side (mux_b terms w) r.given_b) w.a.delivered r.given_a j.into r.at_a q.a.running q.a.delivered z.a in
    let b = all_given (terms_at_b terms) w.b.items (run_side (mux_a terms w) r.given_a) w.b.delivered r.given_b j.back r.at_b q.b.running q.b.delivered z.b in
    (on.0, r.is ∙ (ap (λ d. record { a = run_side (mux_a terms w) d; b = run_side (mux_b terms w) r.given_b }) a ∙ ap (λ d. record { a = run_side (mux_a terms w) w.a.delivered; b = run_side (mux_b terms w) d }) b))

pub quiet_delivers : (terms : Terms) (steps : List EndStep) → DeliversAll terms steps
quiet_delivers terms steps q =
    let on = same_world terms steps q in
    let made : run_through terms (take (length on.0) on.0) ≡ mux_world terms (end_run terms steps) = ap (run_through terms) (take_all (length on.0) on.0 (omega arith)) ∙ on.1 in
    subst (IsAllDelivered terms) made ((through_keeps_credit terms on.0).quiet (length on.0) (subst (IsQuiet terms) (sym made) q))
