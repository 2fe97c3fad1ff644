-- The credit law holds of every run.
use Rattle.std.specs.Prelude.{ℕ, ◌+◌, ◌-◌, List, [], ◌∷◌, ◌++◌, length, map, take, drop, Bool, true, false, not, ◌&&◌, nat_le, if◌then◌else◌, Option, Some, None}
use Rattle.std.specs.Str.{bytes_eq}
use Rattle.std.proofs.Common.{◌≡◌, refl, sym, ◌∙◌, ap, subst, inl, inr, arith, length-append}
use Rattle.std.proofs.lemmas.Bool.{cases_Bool}
use Rattle.std.proofs.lemmas.Slice.Eq.{bytes_eq-Decides}
use Rattle.wire_base.specs.declared.reason.Reason.TheVariants as reason
use Rattle.wire_base.specs.declared.refusal.Refusal.{Refusal}
use Rattle.wire_base.specs.declared.state.Cause.{Cause}
use Rattle.wire_base.specs.declared.state.Cause.TheVariants as cause
use Rattle.frame_text.specs.Hello.{hello}
use Rattle.mux_items.specs.declared.call.Call.{Call}
use Rattle.mux_items.specs.declared.call.Call.TheVariants as call
use Rattle.mux_items.specs.declared.channel.ChannelKey.{ChannelKey}
use Rattle.mux_items.specs.Bodies.{FrameBody, ChannelFrame, other_key, flip, frame_text, frame_texts}
use Rattle.mux_items.specs.Items.{Item, Hello, Got, Rejected, End, is_running}
use Rattle.mux_items.specs.Lists.{is_live}
use Rattle.mux_items.specs.Parties.{party_by}
use Rattle.mux_items.specs.Due.{sent, got}
use Rattle.mux_items.specs.Calls.{call_refusal, item_of_call, unless_refused, called}
use Rattle.mux_items.specs.Refusals.{is_ready}
use Rattle.mux_items.specs.Applying.{IsTaken, apply_frame, item_of_frame, lacks_room, place_at}
use Rattle.mux_items.proofs.Newer.{ready_more}
use Rattle.mux_items.proofs.Order.{ordered}
use Rattle.mux_run.specs.Run.{RunSide, World, Terms, SideTerms, terms_at_a, terms_at_b, turned, out, greeting_size, whole_frames, next_frames, place_after, greet, greeted, apply_frames, settled, added, is_spent, delivered_to, stopped, side_after, side_of, happens_at, start}
use Rattle.mux_run.specs.Between.{ahead, Between}
use Rattle.mux_run.specs.Moments.{IsMoment}
use Rattle.mux_run.specs.Spending.{RunStep, Makes, Spends, comes, come_from, run_through, IsMomentThrough}
use Rattle.mux_run.specs.Linked.{Joined}
use Rattle.mux_run.specs.declared.steps.Side.{Side}
use Rattle.mux_run.specs.declared.steps.Side.TheVariants.{A, B}
use Rattle.mux_run.specs.declared.steps.Step.{Step}
use Rattle.mux_run.specs.declared.steps.Step.TheVariants as step
use Rattle.mux_run.proofs.WholeFrames.{whole_all}
use Rattle.mux_run.proofs.Growing.{greeted_grown, next_front, apply_frames_more, apply_frames_stopped}
use Rattle.mux_run.proofs.Between.{turned_between, between_grown, between_called, applied_is, between_next}
use Rattle.mux_run.proofs.Links.{joined_between, comes_joined, turned_joined, fresh_joined, through_joined}
use Rattle.mux_run.proofs.Moments.{through_between, made_through, moment_through}
use Rattle.mux_run.proofs.Fed.{IsFed, AreFed, turned_fed, through_fed}
use Rattle.mux_credit.specs.Credit.{IsDelivered}
use Rattle.mux_credit.specs.Runs.{IsEndedWell, KeepsCreditWay, KeepsCredit, IsQuietSide, IsQuiet, IsAllDelivered, KeepsCreditRun, KeepsCreditThrough}
use Rattle.mux_credit.proofs.Next.{takes_next}
use Rattle.mux_credit.proofs.Credit.{has_credit}
use Rattle.mux_credit.proofs.Quiet.{delivered}

-- no frame is refused on the way

item_well : (w : SideTerms) (place : ℕ) (c : ChannelKey) (body : FrameBody) (items : List Item) → IsEndedWell w items → IsEndedWell w (item_of_frame w.version place c body items ∷ items)
item_well w place c body items h = by (lacks_room w.version body items)
  where
    by : (b : Bool) → IsEndedWell w ((if b then Rejected place c body else Got place c body) ∷ items)
    by true = h
    by false = h

frames_well : (w : SideTerms) (place : ℕ) (fs more : List ChannelFrame) (x y : List Item) → Between w.version x y → is_ready w.version x ≡ true → ahead w.version x y ≡ fs ++ more → IsEndedWell w x → IsEndedWell w (apply_frames w.version place fs x)
frames_well w place [] more x y b ready e h = h
frames_well w place (f ∷ fs) more x y b ready e h = elim (cases_Bool (is_running x)) [
  | inl runs ↦
      let v = w.version in
      let c = (flip f).key in
      let after = apply_frame v place c f.body x in
      let item = item_of_frame v place c f.body x in
      let taken : IsTaken v c f.body x = record { ready = ready; running = runs; unrefused = takes_next v x y b f (fs ++ more) e } in
      let on = between_next v place x y f (fs ++ more) b taken e in
      let is : after ≡ item ∷ x = applied_is v place c f.body x taken.unrefused in
      let well : IsEndedWell w after = subst (IsEndedWell w) (sym is) (item_well w place c f.body x h) in
      let stays : is_ready v after ≡ true = ap (is_ready v) is ∙ ready_more v item x ready in
      subst (IsEndedWell w) (sym (apply_frames_more v place f fs x runs)) (frames_well w (place + length (frame_text v f)) fs more after y on.0 stays on.1 well)
  | inr stopped ↦ subst (IsEndedWell w) (sym (apply_frames_stopped w.version place (f ∷ fs) x stopped)) h
]

greet_well : (w : SideTerms) (items : List Item) → IsEndedWell w items → IsEndedWell w (greet w ∷ items)
greet_well w items h = by (bytes_eq w.own w.peer) refl
  where
    by : (b : Bool) → bytes_eq w.own w.peer ≡ b → IsEndedWell w ((if b then End (cause.Refused (place_at (greeting_size w - length w.peer)) reason.SameNonce) else Hello (party_by w.own w.peer)) ∷ items)
    by true e = (refl, (bytes_eq-Decides w.own w.peer).0 e, h)
    by false e = h

greeted_well : (w : SideTerms) (given : ℕ) (items : List Item) → IsEndedWell w items → IsEndedWell w (greeted w given items)
greeted_well w given items h = by (is_running items && not (is_ready w.version items) && nat_le (greeting_size w) given)
  where
    by : (b : Bool) → IsEndedWell w (if b then greet w ∷ items else items)
    by true = greet_well w items h
    by false = h

called_well : (w : SideTerms) (c : Call) (items : List Item) → IsEndedWell w items → IsEndedWell w (called w.version c items)
called_well w c items h = by (call_refusal w.version c items)
  where
    of_call : (c : Call) → IsEndedWell w (item_of_call c items ∷ items)
    of_call (call.Offer name size) = h
    of_call (call.Accept c size) = h
    of_call (call.Write c bytes) = h
    of_call (call.Read c max) = h
    of_call (call.Complete c) = h
    of_call (call.Terminate c) = h

    by : (r : Option Refusal) → IsEndedWell w (unless_refused r (item_of_call c items) items)
    by (Some refusal) = h
    by None = of_call c

settled_well : (w : SideTerms) (given : ℕ) (items : List Item) (y : RunSide) → Between w.version items y.items → IsEndedWell w items → IsEndedWell w (settled w given items y).items
settled_well w given items y b h = by (is_ready w.version (greeted w given items)) refl
  where
    by : (ready : Bool) → is_ready w.version (greeted w given items) ≡ ready → IsEndedWell w (if ready
        then apply_frames w.version (place_after w (length (got (greeted w given items))) y) (next_frames w given (length (got (greeted w given items))) y) (greeted w given items)
        else greeted w given items)
    by true ready =
        let after = greeted w given items in
        let on = between_grown w.version items y.items after b (greeted_grown w given items) in
        let front = next_front w given after y (ahead w.version after y.items) on.into in
        frames_well w (place_after w (length (got after)) y) (next_frames w given (length (got after)) y) front.0 after y.items on ready (sym front.1) (greeted_well w given items h)
    by false unready = greeted_well w given items h

delivered_well : (w : SideTerms) (n : ℕ) (x y : RunSide) → Between w.version x.items y.items → IsEndedWell w x.items → IsEndedWell w (delivered_to w n x y).items
delivered_well w n x y b h = elim (is_running x.items) as (λ r. IsEndedWell w (if not r then x else if is_spent w n x y then record { items = End cause.Spent ∷ x.items; delivered = x.delivered } else settled w (x.delivered + added w n x y) x.items y).items) [
  | true ↦ elim (is_spent w n x y) as (λ s. IsEndedWell w (if s then record { items = End cause.Spent ∷ x.items; delivered = x.delivered } else settled w (x.delivered + added w n x y) x.items y).items) [
    | true ↦ h
    | false ↦ settled_well w (x.delivered + added w n x y) x.items y b h
  ]
  | false ↦ h
]

stopped_well : (w : SideTerms) (x : RunSide) → IsEndedWell w x.items → (cause : Cause) → IsEndedWell w (End cause ∷ x.items) → IsEndedWell w (stopped cause x).items
stopped_well w x h cause h_ended = elim (is_running x.items) as (λ r. IsEndedWell w (if r then record { items = End cause ∷ x.items; delivered = x.delivered } else x).items) [ true ↦ h_ended | false ↦ h ]

side_well : (w : SideTerms) (s : Step) (x y : RunSide) → Between w.version x.items y.items → IsEndedWell w x.items → IsEndedWell w (side_after w s x y).items
side_well w (step.Call side c) x y b h = settled_well w x.delivered (called w.version c x.items) y (between_called w.version c x.items y.items b) (called_well w c x.items h)
side_well w (step.Deliver side n) x y b h = delivered_well w n x y b h
side_well w (step.End side) x y b h = stopped_well w x h cause.InputEnded h

record AreEndedWell (terms : Terms) (w : World) : Type 0 where
  a : IsEndedWell (terms_at_a terms) w.a.items
  b : IsEndedWell (terms_at_b terms) w.b.items

happens_well : (terms : Terms) (s : Step) (side : Side) (w : World) → Joined (terms_at_a terms) w.a w.b → AreEndedWell terms w → AreEndedWell terms (happens_at terms side s w)
happens_well terms s A w j h = record { a = side_well (terms_at_a terms) s w.a w.b (joined_between (terms_at_a terms) w.a w.b j) h.a; b = h.b }
happens_well terms s B w j h = record { a = h.a; b = side_well (terms_at_b terms) s w.b w.a (joined_between (terms_at_b terms) w.b w.a (turned_joined (terms_at_a terms) w.a w.b j)) h.b }

comes_well : (terms : Terms) (s : RunStep) (w : World) → Joined (terms_at_a terms) w.a w.b → AreEndedWell terms w → AreEndedWell terms (comes terms s w)
comes_well terms (Makes s) w j h = happens_well terms s (side_of s) w j h
comes_well terms (Spends A) w j h = record { a = stopped_well (terms_at_a terms) w.a h.a cause.Spent h.a; b = h.b }
comes_well terms (Spends B) w j h = record { a = h.a; b = stopped_well (terms_at_b terms) w.b h.b cause.Spent h.b }

come_from_well : (terms : Terms) (w : World) (steps : List RunStep) → Joined (terms_at_a terms) w.a w.b → AreEndedWell terms w → AreEndedWell terms (come_from terms w steps)
come_from_well terms w [] j h = h
come_from_well terms w (s ∷ steps) j h = come_from_well terms (comes terms s w) steps (comes_joined terms s w j) (comes_well terms s w j h)

through_well : (terms : Terms) (steps : List RunStep) → AreEndedWell terms (run_through terms steps)
through_well terms steps = come_from_well terms start steps (fresh_joined (terms_at_a terms)) (record { a = tt; b = tt })

-- and so at every moment

well_before : (w : SideTerms) (item : Item) (items : List Item) → IsEndedWell w (item ∷ items) → IsEndedWell w items
well_before w (End (cause.Refused place r)) items h = h.2
well_before w item items h = h

well_older : (w : SideTerms) (newer items : List Item) → IsEndedWell w (newer ++ items) → IsEndedWell w items
well_older w [] items h = h
well_older w (item ∷ newer) items h = well_older w newer items (well_before w item (newer ++ items) h)

moment_well : (w : SideTerms) (older newer items : List Item) → IsMoment older newer items → IsEndedWell w newer → IsEndedWell w items
moment_well w older newer items m h = well_older w m.later items (subst (IsEndedWell w) m.more h)

way_keeps : (w : SideTerms) (x y : List Item) → Between w.version x y → IsEndedWell w x → KeepsCreditWay w x y
way_keeps w x y b h = record { credit = λ c. has_credit w.version c x y b; order = λ c. ordered w.version c y b.allowed_peer; takes = takes_next w.version x y b; well = h }

moment_keeps : (terms : Terms) (steps : List RunStep) (a b : List Item) → IsMomentThrough terms steps a b → KeepsCredit terms a b
moment_keeps terms steps a b m =
    let together = through_between terms steps a b m in
    let older = run_through terms (take m.made steps) in
    let newer = run_through terms (take (m.made + 1) steps) in
    let well = through_well terms (take (m.made + 1) steps) in
    record {
      to_a = way_keeps (terms_at_a terms) a b together (moment_well (terms_at_a terms) older.a.items newer.a.items a m.at_a well.a);
      to_b = way_keeps (terms_at_b terms) b a (turned_between terms.version a b together) (moment_well (terms_at_b terms) older.b.items newer.b.items b m.at_b well.b);
    }

-- all that was given is applied

given_all : (w : SideTerms) (x y : RunSide) → IsFed w x y → is_running x.items ≡ true → x.delivered ≡ length (out w.version w.peer y.items) → ahead w.version x.items y.items ≡ []
given_all w x y f runs all =
    let size : length (out w.version w.peer y.items) ≡ greeting_size w + length (frame_texts w.version (sent w.version y.items)) = length-append (hello w.version w.peer) (frame_texts w.version (sent w.version y.items)) in
    elim (cases_Bool (is_ready w.version x.items)) [
      | inl ready ↦
          let whole : whole_frames w.version (x.delivered - greeting_size w) (sent w.version y.items) ≡ sent w.version y.items = whole_all w.version (x.delivered - greeting_size w) (sent w.version y.items) (omega (arith, all, size)) in
          ap (drop (length (got x.items))) (sym whole) ∙ f.all runs ready
      | inr unready ↦ absurd (let short = f.short runs unready in omega (arith, all, size, short))
    ]

quiet_delivered : (w : SideTerms) (c : ChannelKey) (x y : RunSide) → Joined w x y → AreFed w x y → IsQuietSide w x y → IsQuietSide (turned w) y x → is_live w.version c x.items ≡ true → is_live w.version (other_key c) y.items ≡ true → IsDelivered w.version c x.items y.items
quiet_delivered w c x y j f q q_peer live live_peer =
    delivered w.version c x.items y.items (joined_between w x y j) q.running q_peer.running (given_all w x y f.into q.running q.delivered) (given_all (turned w) y x f.back q_peer.running q_peer.delivered) (q.read c) live live_peer

quiet_world : (terms : Terms) (w : World) → Joined (terms_at_a terms) w.a w.b → AreFed (terms_at_a terms) w.a w.b → IsQuiet terms w → IsAllDelivered terms w
quiet_world terms w j f q = record {
  to_a = λ c live live_peer. quiet_delivered (terms_at_a terms) c w.a w.b j f q.a q.b live live_peer;
  to_b = λ c live live_peer. quiet_delivered (terms_at_b terms) c w.b w.a (turned_joined (terms_at_a terms) w.a w.b j) (turned_fed (terms_at_a terms) w.a w.b f) q.b q.a live live_peer;
}

pub through_keeps_credit : (terms : Terms) (steps : List RunStep) → KeepsCreditThrough terms steps
through_keeps_credit terms steps = record {
  always = moment_keeps terms steps;
  quiet = λ made q. quiet_world terms (run_through terms (take made steps)) (through_joined terms (take made steps)) (through_fed terms (take made steps)) q;
}

pub run_keeps_credit : (terms : Terms) (steps : List Step) → KeepsCreditRun terms steps
run_keeps_credit terms steps =
    let keeps = through_keeps_credit terms (map Makes steps) in
    record {
      always = λ a b m. keeps.always a b (moment_through terms steps a b m);
      quiet = λ made q. (let same = made_through terms steps made in
          subst (IsAllDelivered terms) (sym same) (keeps.quiet made (subst (IsQuiet terms) same q)));
    }
