-- What a step makes of two ends that stand for a run.
use Rattle.std.specs.Prelude.{if◌then◌else◌, not, Bool, true, false}
use Rattle.std.proofs.Common.{◌≡◌, ℕ, ◌+◌, ◌-◌, ◌≤◌, List, [], ◌∷◌, ◌++◌, length, drop, refl, sym, ◌∙◌, ap, ap₂, subst, arith, Option, Some, None, Result, Ok, Err, IfOk}
use Rattle.std.proofs.lemmas.List.{drop-append-le, drop-drop, drop_at}
use Rattle.wire_base.specs.declared.out_of_memory.OutOfMemory.{OutOfMemory}
use Rattle.wire_base.specs.declared.state.Cause.TheVariants as cause
use Rattle.message_body.specs.AsRead.{AreMessages}
use Rattle.mux_items.specs.Bodies.{frame_texts}
use Rattle.mux_items.specs.Items.{End}
use Rattle.mux_run.specs.declared.steps.Side.{Side}
use Rattle.mux_run.specs.declared.steps.Side.TheVariants.{A, B}
use Rattle.mux_run.specs.Run.{RunSide, SideTerms, Terms, terms_at_a, terms_at_b, turned, out, added, is_spent}
use Rattle.mux_run.proofs.Growing.{out-more}
use Rattle.rpc_items.specs.Saying.{all_said}
use Rattle.rpc_end.specs.declared.terms.Terms as connection
use Rattle.rpc_end.specs.Stands.{RpcValue}
use Rattle.endpoint_items.specs.Asked.{made_by}
use Rattle.endpoint_items.specs.Bytes.{consumed, rest_of}
use Rattle.endpoint_items.specs.Calls.{EndCall}
use Rattle.endpoint_items.specs.Connections.{Connection, items_of}
use Rattle.endpoint_items.specs.Items.{Mux, terms_of}
use Rattle.endpoint_items.specs.Layers.{mux_of, rpc_of}
use Rattle.endpoint.specs.Stands.{ConnectionStands}
use Rattle.endpoint.specs.Value.{EndpointValue, connection_at}
use Rattle.endpoint_run.specs.declared.answers.DuoAnswer.{DuoAnswer}
use Rattle.endpoint_run.specs.declared.steps.Step.{Step}
use Rattle.endpoint_run.specs.declared.steps.Step.TheVariants as step
use Rattle.endpoint_run.specs.Answers.{answer, answer_on, called_step, made_step, made_steps, side_of, side_by, world_by, run}
use Rattle.endpoint_run.specs.Exchange.{SaysMessages}
use Rattle.endpoint_run.specs.Moments.{IsNewer}
use Rattle.endpoint_run.specs.Run.{EndSide, EndWorld, EndStep, Calls, Delivers, Ends, mux_side, runs, with_item, begun, turns_of}
use Rattle.endpoint_run.proofs.Emitted.{frames_grow}
use Rattle.endpoint_run.proofs.Exchanging.{run_exchanges}
use Rattle.endpoint_run.proofs.Growing.{side_newer}
use Rattle.endpoint_run.proofs.Midway.{midway_a, midway_b}
use Rattle.endpoint_run.proofs.Resting.{run_rests}
use Rattle.endpoint_run.proofs.Safety.{run_safe}
use Rattle.endpoint_run.proofs.Settled.{run_settled}
use Rattle.endpoint_run.proofs.Telling.{run_goes_on}
use Rattle.duo_world.specs.Holding.{StandsForSide, StandForWorld, HaveNonces, DuoState, StandsForRun, IsWorking}
use Rattle.duo_world.specs.Stepping.{IsBetweenSteps, StepsAt, StepsIn, newly_out, Emits, EmitsOn, RunHolds, IsStepped}
use Rattle.duo_world.proofs.Delivering.{in_flight_is}

-- a step changes its own side alone

abbrev world_at : Terms → Side → Option EndStep → EndWorld → EndWorld
world_at terms A made w = record { a = side_by (terms_at_a terms) made w.a w.b; b = w.b }
world_at terms B made w = record { a = w.a; b = side_by (terms_at_b terms) made w.b w.a }

called_at : (terms : Terms) (side : Side) (o : Option EndCall) (w : EndWorld) → world_by terms (called_step side o) w ≡ world_at terms side (called_step side o) w
called_at terms A (Some c) w = refl
called_at terms B (Some c) w = refl
called_at terms A None w = refl
called_at terms B None w = refl

made_at : (terms : Terms) (s : Step) (w : EndWorld) → world_by terms (made_step s) w ≡ world_at terms (side_of s) (made_step s) w
made_at terms (step.Call side c) w = called_at terms side (made_by c) w
made_at terms (step.Deliver A n) w = refl
made_at terms (step.Deliver B n) w = refl
made_at terms (step.End A) w = refl
made_at terms (step.End B) w = refl

-- a step at either side

steps_on : (terms : Terms) (s : Step) (a b : EndpointValue) (w : EndWorld) (side : Side) (result : Result DuoAnswer OutOfMemory) → side_of s ≡ side
    → IfOk result (λ reply. (reply ≡ answer_on terms side s w) × StandForWorld terms a b (world_at terms side (made_step s) w)) → IfOk result (StepsIn terms s a b w)
steps_on terms s a b w side result e h =
    subst (λ after. IfOk result (λ reply. (reply ≡ answer terms s w) × StandForWorld terms a b after)) (sym (made_at terms s w))
    (subst (λ side. IfOk result (λ reply. (reply ≡ answer_on terms side s w) × StandForWorld terms a b (world_at terms side (made_step s) w))) (sym e) h)

at_b : (terms : Terms) (s : Step) (a b : EndpointValue) (w : EndWorld) (result : Result DuoAnswer OutOfMemory) → IfOk result (StepsAt (terms_at_b terms) s b a w.b w.a)
    → IfOk result (λ reply. (reply ≡ answer_on terms B s w) × StandForWorld terms a b (world_at terms B (made_step s) w))
at_b terms s a b w (Ok reply) h = (h.0, record { at_own = h.1.at_peer; at_peer = h.1.at_own })
at_b terms s a b w (Err e) h = tt

-- the same two ends, as the other side sees them
turned_ends : (w : SideTerms) (own peer : EndpointValue) (x y : EndSide) → IsBetweenSteps w own peer x y → IsBetweenSteps (turned w) peer own y x
turned_ends w own peer x y r = record {
  nonces = record { own = r.nonces.peer; peer = r.nonces.own };
  stand = record { at_own = r.stand.at_peer; at_peer = r.stand.at_own };
  own_midway = r.peer_midway;
  peer_midway = r.own_midway;
}

pub steps_a : (terms : Terms) (s : Step) (a a' b b' : EndpointValue) (w : EndWorld) (result : Result DuoAnswer OutOfMemory) → side_of s ≡ A
    → ((w : SideTerms) (x y : EndSide) → IsBetweenSteps w a b x y → IfOk result (StepsAt w s a' b' x y)) → IsBetweenSteps (terms_at_a terms) a b w.a w.b → IfOk result (StepsIn terms s a' b' w)
steps_a terms s a a' b b' w result e h r = steps_on terms s a' b' w A result e (h (terms_at_a terms) w.a w.b r)

pub steps_b : (terms : Terms) (s : Step) (a a' b b' : EndpointValue) (w : EndWorld) (result : Result DuoAnswer OutOfMemory) → side_of s ≡ B
    → ((w : SideTerms) (x y : EndSide) → IsBetweenSteps w b a x y → IfOk result (StepsAt w s b' a' x y)) → IsBetweenSteps (terms_at_a terms) a b w.a w.b → IfOk result (StepsIn terms s a' b' w)
steps_b terms s a a' b b' w result e h r = steps_on terms s a' b' w B result e (at_b terms s a' b' w result (h (terms_at_b terms) w.b w.a (turned_ends (terms_at_a terms) a b w.a w.b r)))

-- a Duo that works is between two steps of its run
pub between_steps : (d : DuoState) → IsWorking d → IsBetweenSteps (terms_at_a d.terms) d.a d.b (run d.terms d.steps).a (run d.terms d.steps).b
between_steps d h = record { nonces = h.nonces; stand = h.stands; own_midway = midway_a d.terms (made_steps d.steps); peer_midway = midway_b d.terms (made_steps d.steps) }

-- a step only adds to its side

given_count : (w : SideTerms) (n : ℕ) (x y : EndSide) (running past : Bool)
    → x.delivered ≤ (if not running then x else if past then with_item (Mux (End cause.Spent)) x else record { items = x.items; delivered = x.delivered + added w n (mux_side w.version x) (mux_side w.version y) }).delivered
given_count w n x y true true = omega arith
given_count w n x y true false = omega arith
given_count w n x y false past = omega arith

begun_count : (w : SideTerms) (s : EndStep) (x y : EndSide) → x.delivered ≤ (begun w s x y).delivered
begun_count w (Calls side c) x y = omega arith
begun_count w (Delivers side n) x y = given_count w n x y (runs w.version x) (is_spent w n (mux_side w.version x) (mux_side w.version y))
begun_count w (Ends side) x y = elim (runs w.version x) as (λ b. x.delivered ≤ (if b then with_item (Mux (End cause.InputEnded)) x else x).delivered) [ true ↦ omega arith | false ↦ omega arith ]

record AddsTo (x x' : EndSide) : Type 0 where
  items : IsNewer x.items x'.items
  delivered : x.delivered ≤ x'.delivered

step_adds : (w : SideTerms) (made : Option EndStep) (x y : EndSide) → AddsTo x (side_by w made x y)
step_adds w (Some s) x y = record { items = side_newer w (turns_of w s x y) s x y; delivered = begun_count w s x y }
step_adds w None x y = record { items = ([], refl); delivered = omega arith }

-- what an end emits

emits : (w : SideTerms) (own own' peer peer' : EndpointValue) (x x' y : EndSide) → AddsTo x x' → StandsForSide w own x (mux_side w.version y) → StandsForSide (turned w) peer y (mux_side w.version x)
    → StandsForSide w own' x' (mux_side w.version y) → StandsForSide (turned w) peer' y (mux_side w.version x') → Emits w x x' own own' peer peer'
emits w own own' peer peer' x x' y adds h p h' p' =
    let v = w.version in
    let before = mux_of v x.items in
    let after = mux_of v x'.items in
    let due = frames_grow v x.items x'.items adds.items in
    let more = frame_texts v due.0 in
    let grown : out v w.own after ≡ out v w.own before ++ more = out-more v w.own before after due.0 due.1 in
    let new : newly_out w x x' ≡ more = ap (drop (length (out v w.own before))) grown ∙ drop_at (out v w.own before) more (length (out v w.own before)) refl in
    let heard = out v w.peer (mux_of v y.items) in
    let sum : x.delivered + (x'.delivered - x.delivered) ≡ x'.delivered = omega (arith, adds.delivered) in
    record {
      own_output = in_flight_is (turned w) own' (mux_side v y) x' h' ∙ (ap (drop y.delivered) grown ∙ (drop-append-le y.delivered (out v w.own before) more h.bound
          ∙ ap₂ (λ front back. front ++ back) (sym (in_flight_is (turned w) own (mux_side v y) x h)) (sym new)));
      peer_output = in_flight_is w peer' (mux_side v x') y p' ∙ (ap (λ k. drop k heard) (sym sum) ∙ (sym (drop-drop (x'.delivered - x.delivered) x.delivered heard)
          ∙ ap (drop (x'.delivered - x.delivered)) (sym (in_flight_is w peer (mux_side v x) y p))));
    }

emits_on : (terms : Terms) (made : Option EndStep) (side : Side) (a a' b b' : EndpointValue) (w : EndWorld) → StandForWorld terms a b w → StandForWorld terms a' b' (world_at terms side made w)
    → EmitsOn side terms w (world_at terms side made w) a a' b b'
emits_on terms made A a a' b b' w h h' = emits (terms_at_a terms) a a' b b' w.a (side_by (terms_at_a terms) made w.a w.b) w.b (step_adds (terms_at_a terms) made w.a w.b) h.at_own h.at_peer h'.at_own h'.at_peer
emits_on terms made B a a' b b' w h h' = emits (terms_at_b terms) b b' a a' w.b (side_by (terms_at_b terms) made w.b w.a) w.a (step_adds (terms_at_b terms) made w.b w.a) h.at_peer h.at_own h'.at_peer h'.at_own

-- what an end said are messages of the code

connection_says : (end : Option RpcValue) (x : Connection) (terms : connection.Terms) (at : ℕ) (rest : List ℕ) → ConnectionStands end x terms at rest → AreMessages (all_said (items_of x))
connection_says (Some end) (Some items) terms at rest h = h.stands.said
connection_says None None terms at rest h = tt
connection_says (Some end) None terms at rest h = tt
connection_says None (Some items) terms at rest h = absurd h

side_says : (w : SideTerms) (end : EndpointValue) (x : EndSide) (y : RunSide) → StandsForSide w end x y → SaysMessages w.version x.items
side_says w end x y h =
    subst (λ v. SaysMessages v x.items) h.version
    (λ c. let v = end.mux.version in connection_says (connection_at c end.connections) (rpc_of v c x.items) (terms_of c x.items) (consumed c x.items) (rest_of v c x.items) (h.stands.connections c))

-- what holds of a run for which both ends stand
pub run_holds : (terms : Terms) (steps : List Step) (a b : EndpointValue) → StandForWorld terms a b (run terms steps) → RunHolds terms steps
run_holds terms steps a b h =
    let w = run terms steps in
    let v = terms.version in
    let says_a : SaysMessages v w.a.items = side_says (terms_at_a terms) a w.a (mux_side v w.b) h.at_own in
    let says_b : SaysMessages v w.b.items = side_says (terms_at_b terms) b w.b (mux_side v w.a) h.at_peer in
    record {
      safe = run_safe terms (made_steps steps);
      exchange = run_exchanges terms (made_steps steps) (record { a = says_a; b = says_b });
      handles = run_rests terms (made_steps steps);
      settled = run_settled terms (made_steps steps);
    }

-- one more step

pub stepped : (d d' : DuoState) (s : Step) (reply : DuoAnswer) → IsWorking d → d'.terms ≡ d.terms → d'.steps ≡ d.steps ++ s ∷ [] → d'.failed ≡ false
    → StepsIn d.terms s d'.a d'.b (run d.terms d.steps) reply → IsStepped d d' s reply × IsWorking d'
stepped d d' s reply h terms steps works made =
    let w = run d.terms d.steps in
    let now : run d'.terms d'.steps ≡ world_by d.terms (made_step s) w = ap₂ run terms steps ∙ run_goes_on d.terms s d.steps in
    let at = now ∙ made_at d.terms s w in
    let stand : StandForWorld d.terms d'.a d'.b (world_at d.terms (side_of s) (made_step s) w) = subst (StandForWorld d.terms d'.a d'.b) (made_at d.terms s w) made.1 in
    let stands : StandsForRun d' = subst (λ t. StandForWorld t d'.a d'.b (run d'.terms d'.steps)) (sym terms) (subst (StandForWorld d.terms d'.a d'.b) (sym now) made.1) in (
      record {
        reply_is = made.0;
        steps_are = steps;
        terms_are = terms;
        works = works;
        stands = stands;
        run_holds = run_holds d'.terms d'.steps d'.a d'.b stands;
        emits = subst (λ w'. EmitsOn (side_of s) d.terms w w' d.a d'.a d.b d'.b) (sym at) (emits_on d.terms (made_step s) (side_of s) d.a d'.a d.b d'.b w h.stands stand);
      },
      record { nonces = subst (λ t. HaveNonces (terms_at_a t)) (sym terms) h.nonces; stands = stands },
    )
