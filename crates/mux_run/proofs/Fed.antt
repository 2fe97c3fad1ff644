-- What an end applied lies in the bytes that it was given, and while it runs it applied all that is whole of them.
use Rattle.std.specs.Prelude.{if◌then◌else◌, not, ◌&&◌, ◌||◌, nat_le, Bool, true, false, ◌⊎◌}
use Rattle.std.specs.Str.{bytes_eq}
use Rattle.std.proofs.Common.{◌≡◌, ℕ, ◌+◌, ◌-◌, ◌<◌, ◌≤◌, List, [], ◌∷◌, length, drop, map, refl, sym, ◌∙◌, ap, subst, inl, inr, arith, length-append, length-drop, Option, Some, None, leb-true}
use Rattle.std.proofs.lemmas.Bool.{cases_Bool, and_parts, and_cases, and_from, or_right, not-true, leb-false}
use Rattle.std.proofs.lemmas.List.{append-nil, length-map, drop_all}
use Rattle.wire_base.specs.declared.frame.Version.{Version}
use Rattle.wire_base.specs.declared.frame.Version.TheVariants as version
use Rattle.wire_base.specs.declared.reason.Reason.{Reason}
use Rattle.wire_base.specs.declared.reason.Reason.TheVariants as reason
use Rattle.wire_base.specs.declared.state.Cause.{Cause}
use Rattle.wire_base.specs.declared.state.Cause.TheVariants as cause
use Rattle.frame_text.specs.Hello.{hello}
use Rattle.mux_items.specs.declared.channel.ChannelKey.{ChannelKey}
use Rattle.mux_items.specs.Bodies.{FrameBody, ChannelFrame, flip, frame_text, frame_texts, is_three}
use Rattle.mux_items.specs.Items.{Item, Hello, Got, Rejected, End, is_running, greeting}
use Rattle.mux_items.specs.Due.{sent, got}
use Rattle.mux_items.specs.Refusals.{is_ready, is_greeted, frame_refusal}
use Rattle.mux_items.specs.Applying.{apply_frame, after_frame, lacks_room, place_at}
use Rattle.mux_items.specs.Parties.{party_by}
use Rattle.mux_items.specs.Calls.{call_refusal, item_of_call, unless_refused, called}
use Rattle.mux_run.specs.Run.{RunSide, runs, World, Terms, SideTerms, terms_at_a, terms_at_b, turned, greeting_size, whole_frames, next_frames, place_after, greet, greeted, apply_frames, settled, added, is_spent, delivered_to, stopped, side_after, side_of, happens_at, fresh, start}
use Rattle.mux_run.specs.Linked.{Linked, Joined}
use Rattle.mux_run.specs.Fed.{LieWithin}
use Rattle.mux_run.specs.Spending.{RunStep, Makes, Spends, spent_at, comes, come_from, run_through}
use Rattle.mux_run.specs.declared.steps.Side.{Side}
use Rattle.mux_run.specs.declared.steps.Side.TheVariants.{A, B}
use Rattle.mux_items.specs.declared.call.Call.{Call}
use Rattle.mux_items.specs.declared.call.Call.TheVariants as call
use Rattle.mux_run.specs.declared.steps.Step.{Step}
use Rattle.mux_run.specs.declared.steps.Step.TheVariants as step
use Rattle.mux_run.proofs.WholeFrames.{whole_more, whole_same}
use Rattle.mux_run.proofs.Growing.{Grown, sent_grows, greeted_grown, called_grown, frames_applied, apply_frames_more, apply_frames_stopped, stopped_grown, side_after_grown}
use Rattle.mux_run.proofs.Links.{comes_joined, turned_joined, fresh_joined}

-- while x runs, it applied what is whole of the bytes that it was given
pub record IsFed (w : SideTerms) (x y : RunSide) : Type 0 where
  pub lie : LieWithin w x.delivered x.items y
  pub all : runs x ≡ true → is_ready w.version x.items ≡ true → next_frames w x.delivered (length (got x.items)) y ≡ []
  pub short : runs x ≡ true → is_ready w.version x.items ≡ false → x.delivered < greeting_size w

-- both ways between two sides
pub record AreFed (w : SideTerms) (x y : RunSide) : Type 0 where
  pub into : IsFed w x y
  pub back : IsFed (turned w) y x

-- frames and calls leave the greeting

greeting_item : (v : Version) (place : ℕ) (c : ChannelKey) (body : FrameBody) (items : List Item) (b : Bool) → greeting ((if b then Rejected place c body else Got place c body) ∷ items) ≡ greeting items
greeting_item v place c body items true = refl
greeting_item v place c body items false = refl

pub greeting_by : (v : Version) (place : ℕ) (c : ChannelKey) (body : FrameBody) (items : List Item) (r : Option Reason) → greeting (after_frame v place c body items r) ≡ greeting items
greeting_by v place c body items None = greeting_item v place c body items (lacks_room v body items)
greeting_by v place c body items (Some reason) = refl

pub greeting_frames : (v : Version) (place : ℕ) (fs : List ChannelFrame) (items : List Item) → greeting (apply_frames v place fs items) ≡ greeting items
greeting_frames v place [] items = refl
greeting_frames v place (f ∷ fs) items = elim (cases_Bool (is_running items)) [
  | inl e ↦ ap greeting (apply_frames_more v place f fs items e) ∙ (greeting_frames v (place + length (frame_text v f)) fs (apply_frame v place (flip f).key f.body items)
      ∙ greeting_by v place (flip f).key f.body items (frame_refusal v (flip f).key f.body items))
  | inr e ↦ ap greeting (apply_frames_stopped v place (f ∷ fs) items e)
]

greeting_item_of_call : (c : Call) (items : List Item) → greeting (item_of_call c items ∷ items) ≡ greeting items
greeting_item_of_call (call.Offer name size) items = refl
greeting_item_of_call (call.Accept c size) items = refl
greeting_item_of_call (call.Write c bytes) items = refl
greeting_item_of_call (call.Read c max) items = refl
greeting_item_of_call (call.Complete c) items = refl
greeting_item_of_call (call.Terminate c) items = refl

pub greeting_called : (v : Version) (c : Call) (items : List Item) → greeting (called v c items) ≡ greeting items
greeting_called v c items = elim (call_refusal v c items) as (λ r. greeting (unless_refused r (item_of_call c items) items) ≡ greeting items) [
  | Some refusal ↦ refl
  | None ↦ greeting_item_of_call c items
]

pub ready_same : (v : Version) (items after : List Item) → greeting after ≡ greeting items → is_ready v after ≡ is_ready v items
ready_same v items after e = ap (λ g. is_three v || is_greeted g) e

-- the handshake

greeted_by : (w : SideTerms) (given : ℕ) (items : List Item) → ((is_running items && not (is_ready w.version items) && nat_le (greeting_size w) given) ≡ true) × (greeted w given items ≡ greet w ∷ items)
    ⊎ ((is_running items && not (is_ready w.version items) && nat_le (greeting_size w) given) ≡ false) × (greeted w given items ≡ items)
greeted_by w given items = elim (cases_Bool (is_running items && not (is_ready w.version items) && nat_le (greeting_size w) given)) [
  | inl e ↦ inl (e, ap (λ b. if b then greet w ∷ items else items) e)
  | inr e ↦ inr (e, ap (λ b. if b then greet w ∷ items else items) e)
]

-- a handshake that was applied was whole
pub lie_greeted : (w : SideTerms) (given : ℕ) (items : List Item) (y : RunSide) → LieWithin w given items y → LieWithin w given (greeted w given items) y
lie_greeted w given items y l = elim (greeted_by w given items) [
  | inl h ↦
      let front = and_parts (is_running items && not (is_ready w.version items)) (nat_le (greeting_size w) given) h.0 in
      let unready = not-true (is_ready w.version items) (and_parts (is_running items) (not (is_ready w.version items)) front.0).1 in
      let same : got (greeted w given items) ≡ got items = (greeted_grown w given items).applied ∙ append-nil (got items) in
      record {
        greeted = λ r. leb-true (greeting_size w) given front.1;
        waits = λ r. same ∙ l.waits unready;
        within = omega (arith, ap length same, l.within);
      }
  | inr h ↦ subst (λ after. LieWithin w given after y) (sym h.1) l
]

greet_ready : (w : SideTerms) (items : List Item) → is_running (greet w ∷ items) ≡ true → is_ready w.version (greet w ∷ items) ≡ true
greet_ready w items = elim (bytes_eq w.own w.peer) as (λ b. is_running ((if b then End (cause.Refused (place_at (greeting_size w - length w.peer)) reason.SameNonce) else Hello (party_by w.own w.peer)) ∷ items) ≡ true
    → is_ready w.version ((if b then End (cause.Refused (place_at (greeting_size w - length w.peer)) reason.SameNonce) else Hello (party_by w.own w.peer)) ∷ items) ≡ true) [
      | true ↦ λ e. cc
      | false ↦ λ e. or_right (is_three w.version) true refl
    ]

-- an end that runs and isn't ready waits for more of the handshake
pub short_greeted : (w : SideTerms) (given : ℕ) (items : List Item) → is_running (greeted w given items) ≡ true → is_ready w.version (greeted w given items) ≡ false → given < greeting_size w
short_greeted w given items runs unready = elim (greeted_by w given items) [
  | inl h ↦
      let now = greet_ready w items (ap is_running (sym h.1) ∙ runs) in
      let not_now : is_ready w.version (greet w ∷ items) ≡ false = ap (is_ready w.version) (sym h.1) ∙ unready in
      cc (now, not_now)
  | inr h ↦
      let runs_before : is_running items ≡ true = ap is_running (sym h.1) ∙ runs in
      let unready_before : is_ready w.version items ≡ false = ap (is_ready w.version) (sym h.1) ∙ unready in
      let both = and_from (is_running items) (not (is_ready w.version items)) runs_before (ap not unready_before) in
      elim (and_cases (is_running items && not (is_ready w.version items)) (nat_le (greeting_size w) given) h.0) [
        | inl g ↦ cc (both, g)
        | inr g ↦ leb-false (greeting_size w) given g
      ]
]

-- what settles has applied all that is whole
pub settled_fed : (w : SideTerms) (given : ℕ) (items : List Item) (y : RunSide) → LieWithin w given items y → IsFed w (settled w given items y) y
settled_fed w given items y l = by (is_ready w.version (greeted w given items)) refl
  where
    by : (b : Bool) → is_ready w.version (greeted w given items) ≡ b → IsFed w (record {
      items = if b
          then apply_frames w.version (place_after w (length (got (greeted w given items))) y) (next_frames w given (length (got (greeted w given items))) y) (greeted w given items)
          else greeted w given items;
      delivered = given;
    }) y
    by true e =
        let after = greeted w given items in
        let on_greeted = lie_greeted w given items y l in
        let whole = whole_frames w.version (given - greeting_size w) (sent w.version y.items) in
        let next = next_frames w given (length (got after)) y in
        let place = place_after w (length (got after)) y in
        let last = apply_frames w.version place next after in
        let on = frames_applied w.version place next after e in
        let ready : is_ready w.version last ≡ true = ready_same w.version after last (greeting_frames w.version place next after) ∙ e in
        let count : length (got last) ≡ length (got after) + length on.done = ap length on.grown.applied ∙ (length-append (got after) (map flip on.done) ∙ ap (λ n. length (got after) + n) (length-map on.done flip)) in
        let size : length next ≡ length whole - length (got after) = length-drop (length (got after)) whole in
        let sum : length next ≡ length on.done + length on.left = ap length on.are ∙ length-append on.done on.left in
        record {
          lie = record { greeted = λ r. on_greeted.greeted e; waits = λ u. cc (ready, u); within = omega (arith, on_greeted.within, count, size, sum) };
          all = λ runs r. drop_all (length (got last)) whole (let none : length on.left ≡ 0 = ap length (on.all runs) in omega (arith, count, size, sum, none));
          short = λ runs u. cc (ready, u);
        }
    by false e = record { lie = lie_greeted w given items y l; all = λ runs r. cc (e, r); short = λ runs u. short_greeted w given items runs u }

pub lie_more : (w : SideTerms) (given more : ℕ) (items : List Item) (y : RunSide) → given ≤ more → LieWithin w given items y → LieWithin w more items y
lie_more w given more items y h l =
    let on = whole_more w.version (given - greeting_size w) (more - greeting_size w) (sent w.version y.items) (omega arith) in
    record {
      greeted = λ r. (let had = l.greeted r in omega arith);
      waits = l.waits;
      within = omega (arith, l.within, ap length on.1, length-append (whole_frames w.version (given - greeting_size w) (sent w.version y.items)) on.0);
    }

pub lie_same : (w : SideTerms) (given : ℕ) (items after : List Item) (y : RunSide) → got after ≡ got items → greeting after ≡ greeting items → LieWithin w given items y → LieWithin w given after y
lie_same w given items after y same kept l =
    let ready = ready_same w.version items after kept in
    record { greeted = λ r. l.greeted (sym ready ∙ r); waits = λ u. same ∙ l.waits (sym ready ∙ u); within = omega (arith, ap length same, l.within) }

-- an end that ended
pub ended_fed : (w : SideTerms) (cause : Cause) (x y : RunSide) → IsFed w x y → IsFed w (record { items = End cause ∷ x.items; delivered = x.delivered }) y
ended_fed w cause x y f = record { lie = lie_same w x.delivered x.items (End cause ∷ x.items) y refl refl f.lie; all = λ runs r. cc; short = λ runs u. cc }

stopped_fed : (w : SideTerms) (cause : Cause) (x y : RunSide) → IsFed w x y → IsFed w (stopped cause x) y
stopped_fed w cause x y f = elim (is_running x.items) as (λ b. IsFed w (if b then record { items = End cause ∷ x.items; delivered = x.delivered } else x) y) [ true ↦ ended_fed w cause x y f | false ↦ f ]

pub delivered_fed : (w : SideTerms) (n : ℕ) (x y : RunSide) → IsFed w x y → IsFed w (delivered_to w n x y) y
delivered_fed w n x y f = elim (is_running x.items) as (λ b. IsFed w (if not b then x else if is_spent w n x y then record { items = End cause.Spent ∷ x.items; delivered = x.delivered } else settled w (x.delivered + added w n x y) x.items y) y) [
  | true ↦ elim (is_spent w n x y) as (λ b. IsFed w (if b then record { items = End cause.Spent ∷ x.items; delivered = x.delivered } else settled w (x.delivered + added w n x y) x.items y) y) [
    | true ↦ ended_fed w cause.Spent x y f
    | false ↦ settled_fed w (x.delivered + added w n x y) x.items y (lie_more w x.delivered (x.delivered + added w n x y) x.items y (omega arith) f.lie)
  ]
  | false ↦ f
]

-- a step of x keeps what it was fed
pub side_after_fed : (w : SideTerms) (s : Step) (x y : RunSide) → IsFed w x y → IsFed w (side_after w s x y) y
side_after_fed w (step.Call side c) x y f =
    let after = called w.version c x.items in
    let same : got after ≡ got x.items = (called_grown w.version c x.items).applied ∙ append-nil (got x.items) in
    settled_fed w x.delivered after y (lie_same w x.delivered x.items after y same (greeting_called w.version c x.items) f.lie)
side_after_fed w (step.Deliver side n) x y f = delivered_fed w n x y f
side_after_fed w (step.End side) x y f = stopped_fed w cause.InputEnded x y f

-- and so does a step of y, as frames behind those that reach over the bytes don't count
pub fed_grows : (w : SideTerms) (x y y' : RunSide) (frames : List ChannelFrame) → Grown w.version y.items y'.items frames → Linked w x y → IsFed w x y → IsFed w x y'
fed_grows w x y y' frames g l f =
    let on = sent_grows w.version y.items y'.items frames g in
    let sends = sent w.version y.items in
    let n = x.delivered - greeting_size w in
    let reach : n ≤ length (frame_texts w.version sends) = omega (arith, l.bound, length-append (hello w.version w.peer) (frame_texts w.version sends)) in
    let same : whole_frames w.version n (sent w.version y'.items) ≡ whole_frames w.version n sends = ap (whole_frames w.version n) on.1 ∙ whole_same w.version n sends on.0 reach in
    record {
      lie = record { greeted = f.lie.greeted; waits = f.lie.waits; within = omega (arith, ap length same, f.lie.within) };
      all = λ runs r. ap (drop (length (got x.items))) same ∙ f.all runs r;
      short = f.short;
    }

-- runs

side_after_both : (w : SideTerms) (s : Step) (x y : RunSide) → Joined w x y → AreFed w x y → AreFed w (side_after w s x y) y
side_after_both w s x y j f =
    let on = side_after_grown w s x y in
    record { into = side_after_fed w s x y f.into; back = fed_grows (turned w) y x (side_after w s x y) on.0 on.1 j.back f.back }

pub turned_fed : (w : SideTerms) (x y : RunSide) → AreFed w x y → AreFed (turned w) y x
turned_fed w x y f = record { into = f.back; back = f.into }

happens_fed : (terms : Terms) (s : Step) (side : Side) (w : World) → Joined (terms_at_a terms) w.a w.b → AreFed (terms_at_a terms) w.a w.b → AreFed (terms_at_a terms) (happens_at terms side s w).a (happens_at terms side s w).b
happens_fed terms s A w j f = side_after_both (terms_at_a terms) s w.a w.b j f
happens_fed terms s B w j f =
    turned_fed (terms_at_b terms) (side_after (terms_at_b terms) s w.b w.a) w.a (side_after_both (terms_at_b terms) s w.b w.a (turned_joined (terms_at_a terms) w.a w.b j) (turned_fed (terms_at_a terms) w.a w.b f))

stopped_both : (w : SideTerms) (cause : Cause) (x y : RunSide) → Joined w x y → AreFed w x y → AreFed w (stopped cause x) y
stopped_both w cause x y j f =
    let on = stopped_grown w.version cause x in
    record { into = stopped_fed w cause x y f.into; back = fed_grows (turned w) y x (stopped cause x) on.0 on.1 j.back f.back }

spent_fed : (terms : Terms) (side : Side) (w : World) → Joined (terms_at_a terms) w.a w.b → AreFed (terms_at_a terms) w.a w.b → AreFed (terms_at_a terms) (spent_at side w).a (spent_at side w).b
spent_fed terms A w j f = stopped_both (terms_at_a terms) cause.Spent w.a w.b j f
spent_fed terms B w j f =
    turned_fed (terms_at_b terms) (stopped cause.Spent w.b) w.a (stopped_both (terms_at_b terms) cause.Spent w.b w.a (turned_joined (terms_at_a terms) w.a w.b j) (turned_fed (terms_at_a terms) w.a w.b f))

comes_fed : (terms : Terms) (s : RunStep) (w : World) → Joined (terms_at_a terms) w.a w.b → AreFed (terms_at_a terms) w.a w.b → AreFed (terms_at_a terms) (comes terms s w).a (comes terms s w).b
comes_fed terms (Makes s) w j f = happens_fed terms s (side_of s) w j f
comes_fed terms (Spends side) w j f = spent_fed terms side w j f

come_from_fed : (terms : Terms) (w : World) (steps : List RunStep) → Joined (terms_at_a terms) w.a w.b → AreFed (terms_at_a terms) w.a w.b → AreFed (terms_at_a terms) (come_from terms w steps).a (come_from terms w steps).b
come_from_fed terms w [] j f = f
come_from_fed terms w (s ∷ steps) j f = come_from_fed terms (comes terms s w) steps (comes_joined terms s w j) (comes_fed terms s w j f)

fresh_ready : (v : Version) (nonce : List ℕ) → is_ready v [] ≡ true → length (hello v nonce) ≤ 0
fresh_ready version.One nonce e = cc
fresh_ready version.Two nonce e = cc
fresh_ready version.Three nonce e = omega arith

fresh_short : (v : Version) (nonce : List ℕ) → is_ready v [] ≡ false → 0 < length (hello v nonce)
fresh_short version.One nonce e = omega arith
fresh_short version.Two nonce e = omega arith
fresh_short version.Three nonce e = cc

pub fresh_fed : (w : SideTerms) → IsFed w fresh fresh
fresh_fed w = record {
  lie = record { greeted = fresh_ready w.version w.peer; waits = λ u. refl; within = omega arith };
  all = λ runs r. refl;
  short = λ runs u. fresh_short w.version w.peer u;
}

-- what either side applied lies in what it was given, and while it runs it applied all that is whole

pub through_fed : (terms : Terms) (steps : List RunStep) → AreFed (terms_at_a terms) (run_through terms steps).a (run_through terms steps).b
through_fed terms steps = come_from_fed terms start steps (fresh_joined (terms_at_a terms)) (record { into = fresh_fed (terms_at_a terms); back = fresh_fed (terms_at_b terms) })
