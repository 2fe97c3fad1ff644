-- What a delivery leaves of an end, and a step of the other end.
use Rattle.std.specs.Prelude.{if◌then◌else◌, nat_lt, not, min, Bool, true, false}
use Rattle.std.proofs.Common.{◌≡◌, ℕ, ◌+◌, ◌-◌, ◌≤◌, List, [], ◌∷◌, ◌++◌, length, take, drop, map, refl, sym, ◌∙◌, ap, ap₂, subst, arith, length-append, length-drop, length-take, None, Ok}
use Rattle.std.proofs.lemmas.List.{take-append-le, take-append-drop, drop-append-le, drop-drop, append_cancel_left, length-map}
use Rattle.std.proofs.Math.Seq.{take-add}
use Rattle.std.proofs.lemmas.Bool.{ltb-false}
use Rattle.wire_base.specs.declared.frame.Version.{Version}
use Rattle.wire_base.specs.declared.state.Cause.{Cause}
use Rattle.wire_base.specs.declared.state.Cause.TheVariants as cause
use Rattle.wire_base.specs.declared.state.EndState.{EndState}
use Rattle.wire_base.specs.declared.state.EndState.TheVariants as state
use Rattle.wire_base.specs.States.{is_running_state}
use Rattle.mux_items.specs.Bodies.{ChannelFrame, flip, frame_texts}
use Rattle.mux_items.specs.Items.{Item, End, is_running, ended}
use Rattle.mux_items.specs.Due.{sent, got}
use Rattle.mux_items.specs.Limits.{most_bytes}
use Rattle.mux_items.specs.Refusals.{is_ready}
use Rattle.mux_items.proofs.Texts.{frame_texts-append}
use Rattle.mux_run.specs.declared.steps.Side.{Side}
use Rattle.mux_run.specs.Between.{ahead}
use Rattle.mux_run.specs.Fed.{LieWithin}
use Rattle.mux_run.specs.Run.{RunSide, SideTerms, turned, out, whole_frames, greeting_size, place_after, in_flight, added, is_spent}
use Rattle.mux_run.proofs.WholeFrames.{whole_fits, take_whole}
use Rattle.mux_run.proofs.Growing.{out-more}
use Rattle.mux_end.specs.Replies.{is_spent as is_spent_at}
use Rattle.mux_end.proofs.Output.{output_taken}
use Rattle.endpoint_items.specs.Items.{EndItem, Mux}
use Rattle.endpoint_items.specs.Layers.{mux_of}
use Rattle.endpoint.specs.Changes.{with_output}
use Rattle.endpoint.specs.Replies.{Adds, KeepsPiece, FeedAnswers}
use Rattle.endpoint.specs.Stands.{Stands}
use Rattle.endpoint.specs.Value.{EndpointValue}
use Rattle.endpoint_run.specs.declared.answers.DuoAnswer.TheVariants as duo
use Rattle.endpoint_run.specs.declared.answers.SideEvent.{SideEvent}
use Rattle.endpoint_run.specs.declared.answers.SideEvent.TheVariants.{Ended}
use Rattle.endpoint_run.specs.declared.steps.Step.TheVariants as step
use Rattle.endpoint_run.specs.Answers.{events_since, delivered_count}
use Rattle.endpoint_run.specs.Midway.{IsMidway, all_applied}
use Rattle.endpoint_run.specs.Run.{EndSide, EndStep, Delivers, mux_side, runs, with_item, given_to, side_after, turns_of}
use Rattle.endpoint_run.proofs.Emitted.{frames_grow}
use Rattle.endpoint_run.proofs.Growing.{side_newer}
use Rattle.endpoint_run.proofs.Midway.{midway_lies, all_is_applied}
use Rattle.endpoint_run.proofs.Telling.{events_none, events_pushed}
use Rattle.duo_world.specs.Holding.{place_of, rest_of, StandsForSide, StandForSides}
use Rattle.duo_world.specs.Settling.{side_with, IsMidStep, IsSettled}
use Rattle.duo_world.specs.Stepping.{IsBetweenSteps, StepsAt}
use Rattle.duo_world.proofs.Settling.{given_side}
use Rattle.duo_world.proofs.Standing.{stands_more}
use Rattle.duo_world.proofs.Arriving.{runs_as, running_none, stopped_none}

-- what x applied of y lies in what was delivered

place_within : (v : Version) (n k : ℕ) (fs : List ChannelFrame) → k ≤ length (whole_frames v n fs) → length (frame_texts v (take k fs)) ≤ n
place_within v n k fs h =
    let whole = whole_frames v n fs in
    let front = frame_texts v (take k whole) in
    let back = frame_texts v (drop k whole) in
    let texts : frame_texts v whole ≡ front ++ back = ap (frame_texts v) (sym (take-append-drop k whole)) ∙ frame_texts-append v (take k whole) (drop k whole) in
    omega (arith, ap (λ gs. length (frame_texts v gs)) (take_whole v n k fs h), ap length texts, length-append front back, whole_fits v n fs)

place_below : (w : SideTerms) (d : ℕ) (items : List Item) (y : RunSide) → LieWithin w d items y → place_of w (given_side items d) y ≤ d
place_below w d items y l = by (is_ready w.version items) refl
  where
    by : (b : Bool) → is_ready w.version items ≡ b → (if b then place_after w (length (got items)) y else 0) ≤ d
    by true ready = omega (arith, l.greeted ready, place_within w.version (d - greeting_size w) (length (got items)) (sent w.version y.items) l.within)
    by false unready = omega arith

-- the bytes that were fed are those that were delivered
fed_count : (w : SideTerms) (d : ℕ) (items : List Item) (y : RunSide) → LieWithin w d items y → d ≤ length (out w.version w.peer y.items) → place_of w (given_side items d) y + length (rest_of w (given_side items d) y) ≡ d
fed_count w d items y l bound =
    let bytes = out w.version w.peer y.items in
    let place = place_of w (given_side items d) y in
    omega (arith, place_below w d items y l, length-drop place (take d bytes), length-take d bytes)

-- the output of an end is what is in flight from it
pub in_flight_is : (w : SideTerms) (peer : EndpointValue) (x : RunSide) (y : EndSide) → StandsForSide (turned w) peer y x → peer.mux.output ≡ in_flight w x (mux_side w.version y)
in_flight_is w peer x y h =
    let bytes = out w.version w.peer (mux_of w.version y.items) in
    append_cancel_left (take x.delivered bytes) peer.mux.output (drop x.delivered bytes) (h.output ∙ sym (take-append-drop x.delivered bytes))

-- the end y stays, while the items of x grow

peer_grows : (w : SideTerms) (end : EndpointValue) (y : EndSide) (d : ℕ) (items after : List Item) (more : List ChannelFrame) → StandsForSide w end y (given_side items d) → sent w.version after ≡ sent w.version items ++ more
    → length (got (mux_of w.version y.items)) ≤ length (sent w.version items) → y.delivered ≤ length (out w.version w.peer items) → StandsForSide w end y (given_side after d)
peer_grows w end y d items after more h grown applied bound =
    let v = w.version in
    let m = mux_of v y.items in
    let k = length (got m) in
    let side = mux_side v y in
    let x = given_side items d in
    let x' = given_side after d in
    let front : take k (sent v after) ≡ take k (sent v items) = ap (take k) grown ∙ take-append-le k (sent v items) more applied in
    let place : place_of w side x' ≡ place_of w side x = ap (λ fs. if is_ready v m then greeting_size w + length (frame_texts v fs) else 0) front in
    let bytes : take y.delivered (out v w.peer after) ≡ take y.delivered (out v w.peer items) =
    ap (take y.delivered) (out-more v w.peer items after more grown) ∙ take-append-le y.delivered (out v w.peer items) (frame_texts v more) bound in
    let rest : rest_of w side x' ≡ rest_of w side x = ap (λ n. drop n (take y.delivered (out v w.peer after))) place ∙ ap (drop (place_of w side x)) bytes in
    record {
      stands = subst (λ at. Stands end y.items at (rest_of w side x')) (sym place) (subst (Stands end y.items (place_of w side x)) (sym rest) h.stands);
      in_range = h.in_range;
      output = h.output;
      bound = h.bound;
      version = h.version;
      nonce = h.nonce;
    }

-- the end y stays, while x makes a step, but for what is delivered
pub peer_stays : (w : SideTerms) (s : EndStep) (own peer : EndpointValue) (x y : EndSide) → IsBetweenSteps w own peer x y → StandsForSide (turned w) peer y (mux_side w.version (side_with (side_after w s x y).items x.delivered))
peer_stays w s own peer x y r =
    let v = w.version in
    let after = (side_after w s x y).items in
    let more = frames_grow v x.items after (side_newer w (turns_of w s x y) s x y) in
    let m = mux_of v x.items in
    let n = mux_of v y.items in
    let applied : length (got n) ≤ length (sent v m) = omega (arith, ap length r.own_midway.joined.back.applied, length-append (map flip (got n)) (ahead v n m), length-map (got n) flip) in
    peer_grows (turned w) peer y x.delivered m (mux_of v after) more.0 r.stand.at_peer more.1 applied r.stand.at_own.bound

-- bytes of y's output were taken from it

stands_taken : (end : EndpointValue) (bytes : List ℕ) (items : List EndItem) (at : ℕ) (rest : List ℕ) → Stands end items at rest → Stands (with_output bytes end) items at rest
stands_taken end bytes items at rest s = record {
  mux = output_taken end.mux bytes (mux_of end.mux.version items) at rest s.mux;
  state = s.state;
  connections = s.connections;
  keys = s.keys;
  allowed = s.allowed;
  taken_within = s.taken_within;
  fed_within = s.fed_within;
}

peer_took : (w : SideTerms) (m : ℕ) (peer peer' : EndpointValue) (items : List Item) (d : ℕ) (y : EndSide) → StandsForSide (turned w) peer y (given_side items d) → m ≤ length peer.mux.output
    → peer' ≡ with_output (drop m peer.mux.output) peer → StandsForSide (turned w) peer' y (given_side items (d + m))
peer_took w m peer peer' items d y h small took =
    let bytes = out w.version w.peer (mux_of w.version y.items) in
    let side = mux_side w.version y in
    let flight : peer.mux.output ≡ drop d bytes = in_flight_is w peer (given_side items d) y h in
    subst (λ end. StandsForSide (turned w) end y (given_side items (d + m))) (sym took) (record {
      stands = stands_taken peer (drop m peer.mux.output) y.items (place_of (turned w) side (given_side items d)) (rest_of (turned w) side (given_side items d)) h.stands;
      in_range = h.in_range;
      output = ap (λ bs. take (d + m) bytes ++ drop m bs) flight ∙ (ap (λ bs. take (d + m) bytes ++ bs) (drop-drop m d bytes) ∙ take-append-drop (d + m) bytes);
      bound = omega (arith, ap length flight, length-drop d bytes, h.bound, small);
      version = h.version;
      nonce = h.nonce;
    })

-- what x has of the bytes of y: the place of the first that it didn't apply, those from there, and those on their way

abbrev place : SideTerms → EndSide → EndSide → ℕ
place w x y = place_of w (mux_side w.version x) (mux_side w.version y)

abbrev rest : SideTerms → EndSide → EndSide → List ℕ
rest w x y = rest_of w (mux_side w.version x) (mux_side w.version y)

abbrev flight : SideTerms → EndSide → EndSide → List ℕ
flight w x y = in_flight w (mux_side w.version x) (mux_side w.version y)

-- an end that runs, between two steps
record Runs (w : SideTerms) (own : EndpointValue) (x y : EndSide) : Type 0 where
  goes : is_running (mux_of w.version x.items) ≡ true
  lies : LieWithin w x.delivered (mux_of w.version x.items) (mux_side w.version y)
  bound : x.delivered ≤ length (out w.version w.peer (mux_of w.version y.items))
  stands : StandsForSide w own x (mux_side w.version y)

runs_between : (w : SideTerms) (own peer : EndpointValue) (x y : EndSide) → IsBetweenSteps w own peer x y → is_running_state own.state ≡ true → Runs w own x y
runs_between w own peer x y r e =
    let goes = runs_as w own x.items x.delivered (mux_side w.version y) r.stand.at_own ∙ e in
    record { goes = goes; lies = midway_lies w x.delivered (mux_side w.version y) x.items r.own_midway goes; bound = r.stand.at_peer.bound; stands = r.stand.at_own }

-- x was given m bytes more

fed_rest : (w : SideTerms) (m d : ℕ) (items : List Item) (y : RunSide) → LieWithin w d items y → d ≤ length (out w.version w.peer y.items)
    → rest_of w (given_side items (d + m)) y ≡ rest_of w (given_side items d) y ++ take m (in_flight w (given_side items d) y)
fed_rest w m d items y l bound =
    let bytes = out w.version w.peer y.items in
    let place = place_of w (given_side items d) y in
    let within : place ≤ length (take d bytes) = omega (arith, place_below w d items y l, length-take d bytes) in
    ap (drop place) (take-add d m bytes) ∙ drop-append-le place (take d bytes) (take m (drop d bytes)) within

stands_fed : (w : SideTerms) (m : ℕ) (own fed : EndpointValue) (x y : EndSide) (piece : List ℕ) → Runs w own x y → piece ≡ take m (flight w x y)
    → KeepsPiece own fed x.items (place w x y) (rest w x y) piece → StandsForSide w fed (side_with x.items (x.delivered + m)) (mux_side w.version y)
stands_fed w m own fed x y piece r is k = record {
  stands = subst (Stands fed x.items (place w x y)) (ap (λ bs. rest w x y ++ bs) is ∙ sym (fed_rest w m x.delivered (mux_of w.version x.items) (mux_side w.version y) r.lies r.bound)) k.stands;
  in_range = r.stands.in_range;
  output = ap (λ bs. take y.delivered (out w.version w.own (mux_of w.version x.items)) ++ bs) k.output ∙ r.stands.output;
  bound = r.stands.bound;
  version = k.terms.version ∙ r.stands.version;
  nonce = k.terms.nonce ∙ r.stands.nonce;
}

-- and may apply more
midway_given : (w : SideTerms) (m d : ℕ) (items : List EndItem) (y : RunSide) → IsMidway w d y items → d + m ≤ most_bytes → IsMidway w (d + m) y items
midway_given w m d items y h most = record {
  own = h.own;
  peer = h.peer;
  joined = h.joined;
  exact = h.exact;
  waits = h.waits;
  within = λ r. (let before = h.within r in omega (arith, before));
  allowed = h.allowed;
  most = most;
}

-- what feeding answered, at an end that runs

data Fed (own fed : EndpointValue) (items : List EndItem) (at : ℕ) (rest piece : List ℕ) (s : EndState) : Bool → Type 0 where
  kept : s ≡ state.Running → KeepsPiece own fed items at rest piece → Fed own fed items at rest piece s false
  spent : s ≡ state.Ended cause.Spent → Adds own fed items at rest (Mux (End cause.Spent)) → Fed own fed items at rest piece s true

fed_by : (own fed : EndpointValue) (items : List EndItem) (at : ℕ) (rest piece : List ℕ) (s : EndState) (b : Bool) → FeedAnswers own fed items at rest piece None b (Ok s) → Fed own fed items at rest piece s b
fed_by own fed items at rest piece s false a = kept a.0 a.1
fed_by own fed items at rest piece s true a = spent a.0 a.1

abbrev pub FeedAnswersWhere : (own fed : EndpointValue) (piece : List ℕ) → EndState → Type 0
FeedAnswersWhere own fed piece s = (items : List EndItem) (at : ℕ) (rest : List ℕ) → Stands own items at rest
    → FeedAnswers own fed items at rest piece (ended (mux_of own.mux.version items)) (is_spent_at at rest piece) (Ok s)

feeding : (w : SideTerms) (own fed : EndpointValue) (x y : EndSide) (piece : List ℕ) (s : EndState) → Runs w own x y → FeedAnswersWhere own fed piece s
    → Fed own fed x.items (place w x y) (rest w x y) piece s (is_spent_at (place w x y) (rest w x y) piece)
feeding w own fed x y piece s r answers =
    let past = is_spent_at (place w x y) (rest w x y) piece in
    let none : ended (mux_of own.mux.version x.items) ≡ None = ap (λ v. ended (mux_of v x.items)) r.stands.version ∙ running_none (mux_of w.version x.items) r.goes in
    fed_by own fed x.items (place w x y) (rest w x y) piece s past
    (subst (λ o. FeedAnswers own fed x.items (place w x y) (rest w x y) piece o past (Ok s)) none (answers x.items (place w x y) (rest w x y) r.stands.stands))

kept_by : (own fed : EndpointValue) (items : List EndItem) (at : ℕ) (rest piece : List ℕ) (s : EndState) (b : Bool) → s ≡ state.Running → Fed own fed items at rest piece s b → (b ≡ false) × KeepsPiece own fed items at rest piece
kept_by own fed items at rest piece s false e (kept r k) = (refl, k)
kept_by own fed items at rest piece s true e (spent r k) = absurd (cc (e, r))

spent_by : (own fed : EndpointValue) (items : List EndItem) (at : ℕ) (rest piece : List ℕ) (s : EndState) (c : Cause) (b : Bool) → s ≡ state.Ended c → Fed own fed items at rest piece s b
    → (b ≡ true) × (c ≡ cause.Spent) × Adds own fed items at rest (Mux (End cause.Spent))
spent_by own fed items at rest piece s c false e (kept r k) = absurd (cc (e, r))
spent_by own fed items at rest piece s c true e (spent r k) = (refl, cc (e, r), k)

-- the sides of a delivery

spent_same : (w : SideTerms) (n : ℕ) (own : EndpointValue) (x y : EndSide) (piece : List ℕ) → Runs w own x y → length piece ≡ added w n (mux_side w.version x) (mux_side w.version y)
    → is_spent_at (place w x y) (rest w x y) piece ≡ is_spent w n (mux_side w.version x) (mux_side w.version y)
spent_same w n own x y piece r size =
    ap (λ k. nat_lt most_bytes (k + length piece)) (fed_count w x.delivered (mux_of w.version x.items) (mux_side w.version y) r.lies r.bound)
    ∙ ap (λ k. nat_lt most_bytes (x.delivered + k)) size

-- what a delivery gives its side, and how many bytes it adds, where the side runs and where this passes the most bytes or doesn't

abbrev given_by : SideTerms → (n : ℕ) → EndSide → EndSide → (running past : Bool) → EndSide
given_by w n x y running past =
    if not running then x
    else if past then with_item (Mux (End cause.Spent)) x
    else side_with x.items (x.delivered + added w n (mux_side w.version x) (mux_side w.version y))

abbrev count_by : SideTerms → (n : ℕ) → EndSide → EndSide → (running past : Bool) → ℕ
count_by w n x y running past = if not running then 0 else if past then 0 else added w n (mux_side w.version x) (mux_side w.version y)

given_is : (w : SideTerms) (n : ℕ) (x y : EndSide) (running past : Bool) → runs w.version x ≡ running → is_spent w n (mux_side w.version x) (mux_side w.version y) ≡ past → given_to w n x y ≡ given_by w n x y running past
given_is w n x y running past r s = ap₂ (given_by w n x y) r s

count_is : (w : SideTerms) (n : ℕ) (x y : EndSide) (running past : Bool) → runs w.version x ≡ running → is_spent w n (mux_side w.version x) (mux_side w.version y) ≡ past → delivered_count w n x y ≡ count_by w n x y running past
count_is w n x y running past r s = ap₂ (count_by w n x y) r s

-- a side with all applied that is whole of what it was given
abbrev all_of : SideTerms → EndSide → EndSide → EndSide
all_of w given y = side_with (all_applied w given.delivered (mux_side w.version y) given.items) given.delivered

-- a side whose end doesn't run applies nothing
all_stopped : (w : SideTerms) (given y : EndSide) → runs w.version given ≡ false → all_of w given y ≡ given
all_stopped w given y e =
    ap (λ items. side_with items given.delivered) (all_is_applied w given.delivered (mux_side w.version y) given.items (stopped_none w given.delivered (mux_side w.version y) given.items e))

-- the answer of a delivery that adds so many bytes, and leaves its side as x'
delivery : (w : SideTerms) (n count : ℕ) (side : Side) (own peer : EndpointValue) (events : List SideEvent) (x x' y : EndSide) → side_after w (Delivers side n) x y ≡ x' → delivered_count w n x y ≡ count
    → IsSettled w (length x.items) own events x' (mux_side w.version y) → StandsForSide (turned w) peer y (mux_side w.version x') → StepsAt w (step.Deliver side n) own peer x y (duo.Delivered count events)
delivery w n count side own peer events x x' y to is s p = (
  ap₂ (λ k es. duo.Delivered k es) (sym is) (s.events_are ∙ ap (λ z. events_since w.version (length x.items) z.items) (sym to)),
  subst (λ x'. StandForSides w own peer x' y) (sym to) (record { at_own = s.stands; at_peer = p }),
)

no_events : (w : SideTerms) (events : List SideEvent) (items : List EndItem) → events ≡ [] → events ≡ events_since w.version (length items) items
no_events w events items none = none ∙ sym (events_none w.version (length items) items (omega arith))

-- an end that doesn't run
pub delivers_nothing : (w : SideTerms) (n : ℕ) (side : Side) (own peer : EndpointValue) (events : List SideEvent) (x y : EndSide) → IsBetweenSteps w own peer x y → is_running_state own.state ≡ false → events ≡ []
    → StepsAt w (step.Deliver side n) own peer x y (duo.Delivered 0 events)
delivers_nothing w n side own peer events x y r stopped none =
    let e = runs_as w own x.items x.delivered (mux_side w.version y) r.stand.at_own ∙ stopped in
    let past = is_spent w n (mux_side w.version x) (mux_side w.version y) in
    let to : side_after w (Delivers side n) x y ≡ x = ap (λ given. all_of w given y) (given_is w n x y false past e refl) ∙ all_stopped w x y e in
    delivery w n 0 side own peer events x x y to (count_is w n x y false past e refl)
    (record { stands = r.stand.at_own; events_are = no_events w events x.items none }) r.stand.at_peer

-- an end that runs is fed a piece
record Feeds (w : SideTerms) (n m : ℕ) (own fed : EndpointValue) (piece : List ℕ) (s : EndState) (x y : EndSide) : Type 0 where
  run : Runs w own x y
  added_is : m ≡ added w n (mux_side w.version x) (mux_side w.version y)
  piece_is : piece ≡ take m (flight w x y)
  fed_as : Fed own fed x.items (place w x y) (rest w x y) piece s (is_spent w n (mux_side w.version x) (mux_side w.version y))

feeds : (w : SideTerms) (n m : ℕ) (own fed peer : EndpointValue) (piece : List ℕ) (s : EndState) (x y : EndSide) → IsBetweenSteps w own peer x y → is_running_state own.state ≡ true → m ≡ min n (length peer.mux.output)
    → piece ≡ take m peer.mux.output → FeedAnswersWhere own fed piece s → Feeds w n m own fed piece s x y
feeds w n m own fed peer piece s x y r e count is answers =
    let run = runs_between w own peer x y r e in
    let flown = in_flight_is w peer (mux_side w.version x) y r.stand.at_peer in
    let size : m ≡ added w n (mux_side w.version x) (mux_side w.version y) = count ∙ ap (λ bs. min n (length bs)) flown in
    let long : length piece ≡ added w n (mux_side w.version x) (mux_side w.version y) = omega (arith, ap length is, length-take m peer.mux.output, count, size) in
    record {
      run = run;
      added_is = size;
      piece_is = is ∙ ap (take m) flown;
      fed_as = subst (Fed own fed x.items (place w x y) (rest w x y) piece s) (spent_same w n own x y piece run long) (feeding w own fed x y piece s run answers);
    }

-- one that keeps the piece goes on with it

pub delivers_on : (w : SideTerms) (n m : ℕ) (side : Side) (own fed peer : EndpointValue) (events : List SideEvent) (piece : List ℕ) (s : EndState) (x y : EndSide) → IsBetweenSteps w own peer x y → is_running_state own.state ≡ true → events ≡ []
    → m ≡ min n (length peer.mux.output) → piece ≡ take m peer.mux.output → FeedAnswersWhere own fed piece s → s ≡ state.Running
    → IsMidStep w (x.delivered + m) (length x.items) fed events x.items (mux_side w.version y) × (side_after w (Delivers side n) x y ≡ all_of w (side_with x.items (x.delivered + m)) y) × (delivered_count w n x y ≡ m)
delivers_on w n m side own fed peer events piece s x y r e none count is answers goes =
    let v = w.version in
    let f = feeds w n m own fed peer piece s x y r e count is answers in
    let past = is_spent w n (mux_side v x) (mux_side v y) in
    let k = kept_by own fed x.items (place w x y) (rest w x y) piece s past goes f.fed_as in
    let most : x.delivered + m ≤ most_bytes = omega (arith, f.added_is, ltb-false most_bytes (x.delivered + added w n (mux_side v x) (mux_side v y)) k.0) in
    let given : given_to w n x y ≡ side_with x.items (x.delivered + m) = given_is w n x y true false f.run.goes k.0 ∙ ap (λ k. side_with x.items (x.delivered + k)) (sym f.added_is) in (
      record {
        nonces = r.nonces;
        midway = midway_given w m x.delivered x.items (mux_side v y) r.own_midway most;
        stands = stands_fed w m own fed x y piece f.run f.piece_is k.1;
        peer_in_range = r.stand.at_peer.in_range;
        newer = omega arith;
        events_are = no_events w events x.items none;
      },
      ap (λ given. all_of w given y) given,
      count_is w n x y true false f.run.goes k.0 ∙ sym f.added_is,
    )

pub delivers_kept : (w : SideTerms) (n m : ℕ) (side : Side) (own new peer peer' : EndpointValue) (events : List SideEvent) (x y : EndSide) → IsBetweenSteps w own peer x y
    → side_after w (Delivers side n) x y ≡ all_of w (side_with x.items (x.delivered + m)) y → delivered_count w n x y ≡ m → m ≤ length peer.mux.output → peer' ≡ with_output (drop m peer.mux.output) peer
    → IsSettled w (length x.items) new events (all_of w (side_with x.items (x.delivered + m)) y) (mux_side w.version y) → StepsAt w (step.Deliver side n) new peer' x y (duo.Delivered m events)
delivers_kept w n m side own new peer peer' events x y r to is small took done =
    let v = w.version in
    let after = (all_of w (side_with x.items (x.delivered + m)) y).items in
    let stays : StandsForSide (turned w) peer y (given_side (mux_of v after) x.delivered) =
    subst (λ x'. StandsForSide (turned w) peer y (given_side (mux_of v x'.items) x.delivered)) to (peer_stays w (Delivers side n) own peer x y r) in
    delivery w n m side new peer' events x (all_of w (side_with x.items (x.delivered + m)) y) y to is done (peer_took w m peer peer' (mux_of v after) x.delivered y stays small took)

-- one that would be fed more than may be ends
pub delivers_spent : (w : SideTerms) (n m : ℕ) (side : Side) (own new peer : EndpointValue) (events events' : List SideEvent) (piece : List ℕ) (s : EndState) (c : Cause) (x y : EndSide) → IsBetweenSteps w own peer x y
    → is_running_state own.state ≡ true → events ≡ [] → m ≡ min n (length peer.mux.output) → piece ≡ take m peer.mux.output → FeedAnswersWhere own new piece s → s ≡ state.Ended c
    → events' ≡ events ++ Ended c ∷ [] → StepsAt w (step.Deliver side n) new peer x y (duo.Delivered 0 events')
delivers_spent w n m side own new peer events events' piece s c x y r e none count is answers ends pushed =
    let v = w.version in
    let f = feeds w n m own new peer piece s x y r e count is answers in
    let past = is_spent w n (mux_side v x) (mux_side v y) in
    let k = spent_by own new x.items (place w x y) (rest w x y) piece s c past ends f.fed_as in
    let item = Mux (End cause.Spent) in
    let x' = with_item item x in
    let to : side_after w (Delivers side n) x y ≡ x' = ap (λ given. all_of w given y) (given_is w n x y true true f.run.goes k.0) ∙ all_stopped w x' y refl in
    delivery w n 0 side new peer events' x x' y to (count_is w n x y true true f.run.goes k.0)
    (record {
      stands = stands_more w own new item x.items x.delivered (mux_side v y) (place w x y) (rest w x y) r.stand.at_own tt k.2 refl refl;
      events_are = pushed ∙ (ap₂ (λ es c. es ++ Ended c ∷ []) (no_events w events x.items none) k.1 ∙ sym (events_pushed v (length x.items) item x.items (omega arith)));
    })
    (subst (λ x'. StandsForSide (turned w) peer y (given_side (mux_of v x'.items) x.delivered)) to (peer_stays w (Delivers side n) own peer x y r))
