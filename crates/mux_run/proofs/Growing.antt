-- Items are only added: by calls, by the peer's handshake and by frames.
use Rattle.std.specs.Prelude.{if◌then◌else◌, not, ◌&&◌, nat_le, Bool, true, false, zero, suc, ◌⊎◌}
use Rattle.std.specs.Str.{bytes_eq}
use Rattle.std.proofs.Common.{◌≡◌, ℕ, ◌+◌, ◌-◌, List, [], ◌∷◌, ◌++◌, length, drop, map, refl, sym, ◌∙◌, ap, subst, inl, inr, append_assoc, Option, Some, None}
use Rattle.std.proofs.lemmas.Bool.{cases_Bool, and_parts, or_parts, not-true}
use Rattle.std.proofs.lemmas.List.{append-nil, length-map, drop_at}
use Rattle.wire_base.specs.declared.frame.Version.{Version}
use Rattle.wire_base.specs.declared.reason.Reason.{Reason}
use Rattle.wire_base.specs.declared.reason.Reason.TheVariants as reason
use Rattle.wire_base.specs.declared.refusal.Refusal.{Refusal}
use Rattle.wire_base.specs.declared.state.Cause.{Cause}
use Rattle.wire_base.specs.declared.state.Cause.TheVariants as cause
use Rattle.frame_text.specs.Hello.{hello}
use Rattle.mux_items.specs.declared.channel.ChannelKey.{ChannelKey}
use Rattle.mux_items.specs.declared.party.Party.{Party}
use Rattle.mux_items.specs.declared.party.Party.TheVariants.{Odd, Even}
use Rattle.mux_items.specs.Bodies.{FrameBody, ChannelFrame, frame_on, flip, frame_text, frame_texts, is_three}
use Rattle.mux_items.specs.Items.{Item, Hello, Got, Rejected, End, is_running, greeting}
use Rattle.mux_items.specs.Due.{sent, got}
use Rattle.mux_items.specs.Refusals.{is_ready, is_greeted, frame_refusal}
use Rattle.mux_items.specs.Applying.{Allowed, IsGreeting, IsTaken, is_parity, apply_frame, after_frame, item_of_frame, lacks_room, place_at}
use Rattle.mux_items.specs.Parties.{is_greater, party_by}
use Rattle.mux_items.specs.Calls.{call_refusal, item_of_call, unless_refused, called}
use Rattle.mux_items.proofs.Newer.{sent-newer, ready_newer}
use Rattle.mux_run.specs.Run.{RunSide, SideTerms, out, greeting_size, greet, greeted, apply_frames, whole_frames, next_frames, place_after, settled, added, is_spent, stopped, side_after}
use Rattle.mux_items.specs.declared.call.Call.{Call}
use Rattle.mux_items.specs.declared.call.Call.TheVariants as call
use Rattle.mux_run.specs.declared.steps.Step.{Step}
use Rattle.mux_run.specs.declared.steps.Step.TheVariants as step
use Rattle.mux_items.proofs.Texts.{frame_texts-append}
use Rattle.mux_run.proofs.WholeFrames.{whole_front}

-- newer items came, by which these frames were applied
pub record Grown (v : Version) (before after : List Item) (frames : List ChannelFrame) : Type 0 where
  pub newer : List Item
  pub is : after ≡ newer ++ before
  pub applied : got after ≡ got before ++ frames
  pub allowed : Allowed v before → Allowed v after

pub grown_none : (v : Version) (items : List Item) → Grown v items items []
grown_none v items = record { newer = []; is = refl; applied = sym (append-nil (got items)); allowed = λ a. a }

pub grown_more : (v : Version) (xs ys zs : List Item) (fs gs : List ChannelFrame) → Grown v xs ys fs → Grown v ys zs gs → Grown v xs zs (fs ++ gs)
grown_more v xs ys zs fs gs g h = record {
  newer = h.newer ++ g.newer;
  is = h.is ∙ (ap (λ is. h.newer ++ is) g.is ∙ sym (append_assoc h.newer g.newer xs));
  applied = h.applied ∙ (ap (λ hs. hs ++ gs) g.applied ∙ append_assoc (got xs) fs gs);
  allowed = λ a. h.allowed (g.allowed a);
}

-- one item that applies no frame
pub grown_item : (v : Version) (item : Item) (items : List Item) → got (item ∷ items) ≡ got items → (Allowed v items → Allowed v (item ∷ items)) → Grown v items (item ∷ items) []
grown_item v item items same allowed = record { newer = item ∷ []; is = refl; applied = same ∙ sym (append-nil (got items)); allowed = allowed }

-- more frames were due, and more bytes went out

pub sent_grows : (v : Version) (before after : List Item) (frames : List ChannelFrame) → Grown v before after frames → (more : List ChannelFrame) × (sent v after ≡ sent v before ++ more)
sent_grows v before after frames g =
    let on = sent-newer v g.newer before in
    (on.0, ap (sent v) g.is ∙ on.1)

pub out-more : (v : Version) (nonce : List ℕ) (before after : List Item) (more : List ChannelFrame) → sent v after ≡ sent v before ++ more → out v nonce after ≡ out v nonce before ++ frame_texts v more
out-more v nonce before after more e =
    ap (λ fs. hello v nonce ++ frame_texts v fs) e ∙ (ap (λ bs. hello v nonce ++ bs) (frame_texts-append v (sent v before) more) ∙ sym (append_assoc (hello v nonce) (frame_texts v (sent v before)) (frame_texts v more)))

-- a call

unless_refused_grown : (v : Version) (c : Call) (items : List Item) (refusal : Option Refusal) → call_refusal v c items ≡ refusal → Grown v items (unless_refused refusal (item_of_call c items) items) []
unless_refused_grown v c items (Some refusal) e = grown_none v items
unless_refused_grown v (call.Offer name size) items None e = grown_item v _ items refl (λ a. (e, refl, a))
unless_refused_grown v (call.Accept c size) items None e = grown_item v _ items refl (λ a. (e, a))
unless_refused_grown v (call.Write c bytes) items None e = grown_item v _ items refl (λ a. (e, a))
unless_refused_grown v (call.Read c max) items None e = grown_item v _ items refl (λ a. (e, a))
unless_refused_grown v (call.Complete c) items None e = grown_item v _ items refl (λ a. (e, a))
unless_refused_grown v (call.Terminate c) items None e = grown_item v _ items refl (λ a. (e, a))

pub called_grown : (v : Version) (c : Call) (items : List Item) → Grown v items (called v c items) []
called_grown v c items = unless_refused_grown v c items (call_refusal v c items) refl

-- the end of an end that runs

pub end_grown : (v : Version) (cause : Cause) (items : List Item) → is_running items ≡ true → Grown v items (End cause ∷ items) []
end_grown v cause items runs = grown_item v (End cause) items refl (λ a. (runs, a))

-- the handshake

not_greeted : (greeting : Option Party) → is_greeted greeting ≡ false → greeting ≡ None
not_greeted (Some party) e = cc
not_greeted None e = refl

parity_by : (greater : Bool) → is_parity (if greater then Odd else Even) ≡ true
parity_by true = refl
parity_by false = refl

-- the peer's handshake at an end that waits for it
pub is_greeting : (w : SideTerms) (items : List Item) → is_running items ≡ true → is_ready w.version items ≡ false → IsGreeting w.version (party_by w.own w.peer) items
is_greeting w items runs unready =
    let parts = or_parts (is_three w.version) (is_greeted (greeting items)) unready in
    record { needed = parts.0; parity = parity_by (is_greater w.own w.peer); once = not_greeted (greeting items) parts.1; running = runs }

pub hello_grown : (v : Version) (party : Party) (items : List Item) → IsGreeting v party items → Grown v items (Hello party ∷ items) []
hello_grown v party items g = grown_item v (Hello party) items refl (λ a. (g, a))

greet_grown : (w : SideTerms) (items : List Item) → is_running items ≡ true → is_ready w.version items ≡ false → Grown w.version items (greet w ∷ items) []
greet_grown w items runs unready = elim (bytes_eq w.own w.peer) as (λ b. Grown w.version items ((if b then End (cause.Refused (place_at (greeting_size w - length w.peer)) reason.SameNonce) else Hello (party_by w.own w.peer)) ∷ items) []) [
  | true ↦ end_grown w.version _ items runs
  | false ↦ hello_grown w.version (party_by w.own w.peer) items (is_greeting w items runs unready)
]

pub greeted_grown : (w : SideTerms) (delivered : ℕ) (items : List Item) → Grown w.version items (greeted w delivered items) []
greeted_grown w delivered items = by (is_running items && not (is_ready w.version items) && nat_le (greeting_size w) delivered) refl
  where
    by : (b : Bool) → (is_running items && not (is_ready w.version items) && nat_le (greeting_size w) delivered) ≡ b → Grown w.version items (if b then greet w ∷ items else items) []
    by true e =
        let front = and_parts (is_running items && not (is_ready w.version items)) (nat_le (greeting_size w) delivered) e in
        let both = and_parts (is_running items) (not (is_ready w.version items)) front.0 in
        greet_grown w items both.0 (not-true (is_ready w.version items) both.1)
    by false e = grown_none w.version items

pub ready_grown : (v : Version) (before after : List Item) (frames : List ChannelFrame) → Grown v before after frames → is_ready v before ≡ true → is_ready v after ≡ true
ready_grown v before after frames g e = ap (is_ready v) g.is ∙ ready_newer v g.newer before e

-- one frame: it is applied, or it ends the end

abbrev pub Applies : Version → ChannelFrame → List Item → List Item → Type 0
Applies v f items after = Grown v items after (f ∷ []) ⊎ (Grown v items after [] × (is_running after ≡ false))

frame_item_grown : (v : Version) (place : ℕ) (c : ChannelKey) (body : FrameBody) (items : List Item) → IsTaken v c body items → Grown v items (item_of_frame v place c body items ∷ items) (frame_on c body ∷ [])
frame_item_grown v place c body items taken = by (lacks_room v body items) refl
  where
    by : (b : Bool) → lacks_room v body items ≡ b → Grown v items ((if b then Rejected place c body else Got place c body) ∷ items) (frame_on c body ∷ [])
    by true e = record { newer = Rejected place c body ∷ []; is = refl; applied = refl; allowed = λ a. (taken, e, a) }
    by false e = record { newer = Got place c body ∷ []; is = refl; applied = refl; allowed = λ a. (taken, e, a) }

pub frame_applies : (v : Version) (place : ℕ) (c : ChannelKey) (body : FrameBody) (items : List Item) → is_ready v items ≡ true → is_running items ≡ true → Applies v (frame_on c body) items (apply_frame v place c body items)
frame_applies v place c body items ready runs = by (frame_refusal v c body items) refl
  where
    by : (r : Option Reason) → frame_refusal v c body items ≡ r → Applies v (frame_on c body) items (after_frame v place c body items r)
    by None e = inl (frame_item_grown v place c body items (record { ready = ready; running = runs; unrefused = e }))
    by (Some reason) e = inr (end_grown v _ items runs, refl)

applied_ready : (v : Version) (f : ChannelFrame) (items after : List Item) → Applies v f items after → is_ready v items ≡ true → is_ready v after ≡ true
applied_ready v f items after (inl g) e = ready_grown v items after (f ∷ []) g e
applied_ready v f items after (inr g) e = ready_grown v items after [] g.0 e

-- frames: a front of them is applied, and all where the end still runs

pub record Applied (v : Version) (before after : List Item) (frames : List ChannelFrame) : Type 0 where
  pub done : List ChannelFrame
  pub left : List ChannelFrame
  pub are : frames ≡ done ++ left
  pub grown : Grown v before after (map flip done)
  pub all : is_running after ≡ true → left ≡ []

pub apply_frames_stopped : (v : Version) (place : ℕ) (fs : List ChannelFrame) (items : List Item) → is_running items ≡ false → apply_frames v place fs items ≡ items
apply_frames_stopped v place [] items e = refl
apply_frames_stopped v place (f ∷ fs) items e = ap (λ b. if b then apply_frames v (place + length (frame_text v f)) fs (apply_frame v place (flip f).key f.body items) else items) e

pub apply_frames_more : (v : Version) (place : ℕ) (f : ChannelFrame) (fs : List ChannelFrame) (items : List Item) → is_running items ≡ true
    → apply_frames v place (f ∷ fs) items ≡ apply_frames v (place + length (frame_text v f)) fs (apply_frame v place (flip f).key f.body items)
apply_frames_more v place f fs items e = ap (λ b. if b then apply_frames v (place + length (frame_text v f)) fs (apply_frame v place (flip f).key f.body items) else items) e

applied_none : (v : Version) (items : List Item) (fs : List ChannelFrame) → is_running items ≡ false → Applied v items items fs
applied_none v items fs e = record { done = []; left = fs; are = refl; grown = grown_none v items; all = λ r. cc }

applied_more : (v : Version) (place : ℕ) (f : ChannelFrame) (fs : List ChannelFrame) (items after : List Item) → Applied v after (apply_frames v place fs after) fs
    → Applies v (flip f) items after → Applied v items (apply_frames v place fs after) (f ∷ fs)
applied_more v place f fs items after on (inl g) = record {
  done = f ∷ on.done;
  left = on.left;
  are = ap (λ gs. f ∷ gs) on.are;
  grown = grown_more v items after (apply_frames v place fs after) (flip f ∷ []) (map flip on.done) g on.grown;
  all = on.all;
}
applied_more v place f fs items after on (inr g) =
    subst (λ last. Applied v items last (f ∷ fs)) (sym (apply_frames_stopped v place fs after g.1)) (record { done = []; left = f ∷ fs; are = refl; grown = g.0; all = λ r. cc (g.1) })

pub frames_applied : (v : Version) (place : ℕ) (fs : List ChannelFrame) (items : List Item) → is_ready v items ≡ true → Applied v items (apply_frames v place fs items) fs
frames_applied v place [] items ready = record { done = []; left = []; are = refl; grown = grown_none v items; all = λ r. refl }
frames_applied v place (f ∷ fs) items ready = elim (cases_Bool (is_running items)) [
  | inl runs ↦
      let after = apply_frame v place (flip f).key f.body items in
      let next = place + length (frame_text v f) in
      let applies = frame_applies v place (flip f).key f.body items ready runs in
      subst (λ last. Applied v items last (f ∷ fs)) (sym (apply_frames_more v place f fs items runs))
      (applied_more v next f fs items after (frames_applied v next fs after (applied_ready v (flip f) items after applies ready)) applies)
  | inr stopped ↦ subst (λ last. Applied v items last (f ∷ fs)) (sym (apply_frames_stopped v place (f ∷ fs) items stopped)) (applied_none v items (f ∷ fs) stopped)
]

-- what is whole of the delivered bytes

pub drop_front : {A : Type 0} (k : ℕ) (xs ys : List A) → (more : List A) × (drop k xs ++ more ≡ drop k (xs ++ ys))
drop_front zero xs ys = (ys, refl)
drop_front (suc k) [] ys = (drop (suc k) ys, refl)
drop_front (suc k) (x ∷ xs) ys = drop_front k xs ys

-- the next frames are the first of those ahead
pub next_front : (w : SideTerms) (delivered : ℕ) (items : List Item) (y : RunSide) (ahead : List ChannelFrame) → sent w.version y.items ≡ map flip (got items) ++ ahead
    → (more : List ChannelFrame) × (next_frames w delivered (length (got items)) y ++ more ≡ ahead)
next_front w delivered items y ahead e =
    let k = length (got items) in
    let n = delivered - greeting_size w in
    let frames = sent w.version y.items in
    let whole = whole_frames w.version n frames in
    let front = drop_front k whole (drop (length whole) frames) in
    (front.0, front.1 ∙ (ap (drop k) (whole_front w.version n frames ∙ e) ∙ drop_at (map flip (got items)) ahead k (length-map (got items) flip)))

-- frames of those ahead were applied
pub record Advances (v : Version) (before after : List Item) (ahead : List ChannelFrame) : Type 0 where
  pub done : List ChannelFrame
  pub left : List ChannelFrame
  pub are : ahead ≡ done ++ left
  pub grown : Grown v before after (map flip done)

pub settled_advances : (w : SideTerms) (delivered : ℕ) (items : List Item) (y : RunSide) (ahead : List ChannelFrame) → sent w.version y.items ≡ map flip (got items) ++ ahead
    → Advances w.version items (settled w delivered items y).items ahead
settled_advances w delivered items y ahead e = by (is_ready w.version (greeted w delivered items)) refl
  where
    greeted_is : Grown w.version items (greeted w delivered items) []
    greeted_is = greeted_grown w delivered items

    by : (b : Bool) → is_ready w.version (greeted w delivered items) ≡ b → Advances w.version items (if b
        then apply_frames w.version (place_after w (length (got (greeted w delivered items))) y) (next_frames w delivered (length (got (greeted w delivered items))) y) (greeted w delivered items)
        else greeted w delivered items) ahead
    by true ready =
        let same : got (greeted w delivered items) ≡ got items = greeted_is.applied ∙ append-nil (got items) in
        let front = next_front w delivered (greeted w delivered items) y ahead (e ∙ ap (λ fs. map flip fs ++ ahead) (sym same)) in
        let next = next_frames w delivered (length (got (greeted w delivered items))) y in
        let place = place_after w (length (got (greeted w delivered items))) y in
        let on = frames_applied w.version place next (greeted w delivered items) ready in
        record {
          done = on.done;
          left = on.left ++ front.0;
          are = sym front.1 ∙ (ap (λ fs. fs ++ front.0) on.are ∙ append_assoc on.done on.left front.0);
          grown = grown_more w.version items (greeted w delivered items) (apply_frames w.version place next (greeted w delivered items)) [] (map flip on.done) greeted_is on.grown;
        }
    by false unready = record { done = []; left = ahead; are = refl; grown = greeted_is }

-- settling only adds items
pub settled_grown : (w : SideTerms) (delivered : ℕ) (items : List Item) (y : RunSide) → (frames : List ChannelFrame) × Grown w.version items (settled w delivered items y).items frames
settled_grown w delivered items y = by (is_ready w.version after) refl
  where
    after : List Item
    after = greeted w delivered items

    place : ℕ
    place = place_after w (length (got after)) y

    next : List ChannelFrame
    next = next_frames w delivered (length (got after)) y

    by : (b : Bool) → is_ready w.version after ≡ b → (frames : List ChannelFrame) × Grown w.version items (if b then apply_frames w.version place next after else after) frames
    by true ready =
        let on = frames_applied w.version place next after ready in
        (map flip on.done, grown_more w.version items after (apply_frames w.version place next after) [] (map flip on.done) (greeted_grown w delivered items) on.grown)
    by false unready = ([], greeted_grown w delivered items)

-- an end that ends
pub stopped_grown : (v : Version) (cause : Cause) (x : RunSide) → (frames : List ChannelFrame) × Grown v x.items (stopped cause x).items frames
stopped_grown v cause x = by (is_running x.items) refl
  where
    by : (b : Bool) → is_running x.items ≡ b → (frames : List ChannelFrame) × Grown v x.items (if b then record { items = End cause ∷ x.items; delivered = x.delivered } else x).items frames
    by true runs = ([], end_grown v cause x.items runs)
    by false runs = ([], grown_none v x.items)

-- a step of x only adds items
pub side_after_grown : (w : SideTerms) (s : Step) (x y : RunSide) → (frames : List ChannelFrame) × Grown w.version x.items (side_after w s x y).items frames
side_after_grown w (step.Call side c) x y =
    let after = called w.version c x.items in
    let on = settled_grown w x.delivered after y in
    (on.0, grown_more w.version x.items after (settled w x.delivered after y).items [] on.0 (called_grown w.version c x.items) on.1)
side_after_grown w (step.Deliver side n) x y = by (is_running x.items) refl
  where
    within : (b : Bool) → is_running x.items ≡ true → (frames : List ChannelFrame) × Grown w.version x.items (if b then record { items = End cause.Spent ∷ x.items; delivered = x.delivered } else settled w (x.delivered + added w n x y) x.items y).items frames
    within true runs = ([], end_grown w.version cause.Spent x.items runs)
    within false runs = settled_grown w (x.delivered + added w n x y) x.items y

    by : (b : Bool) → is_running x.items ≡ b → (frames : List ChannelFrame) × Grown w.version x.items (if not b then x else if is_spent w n x y then record { items = End cause.Spent ∷ x.items; delivered = x.delivered } else settled w (x.delivered + added w n x y) x.items y).items frames
    by true runs = within (is_spent w n x y) runs
    by false runs = ([], grown_none w.version x.items)
side_after_grown w (step.End side) x y = stopped_grown w.version cause.InputEnded x
