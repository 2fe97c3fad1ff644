-- Consequences of the order of frames: where the acceptance, the completion and the termination stand.
use Rattle.std.specs.Prelude.{ℕ, List, [], ◌∷◌, ◌++◌, Bool, true, false, ◌||◌, if◌then◌else◌, Option}
use Rattle.std.proofs.Common.{◌≡◌, ◌⊎◌, inl, inr, refl, sym, ◌∙◌, ap, arith}
use Rattle.std.proofs.lemmas.Bool.{cases_Bool, true≢false, or_parts}
use Rattle.wire_base.specs.declared.frame.Version.{Version}
use Rattle.mux_items.specs.declared.channel.ChannelKey.{ChannelKey}
use Rattle.mux_items.specs.Bodies.{FrameBody, Offer, OfferAccepted, ContentWritingCompleted, ChannelTerminated, ContentProcessed, ChannelFrame, frame_on, same_key, window_of}
use Rattle.mux_items.specs.Items.{Item}
use Rattle.mux_items.specs.Lists.{completion_emitted, termination_emitted}
use Rattle.mux_items.specs.Due.{sent, content_of, contents}
use Rattle.mux_items.specs.Applying.{Allowed}
use Rattle.mux_items.specs.Sums.{window_in, windows}
use Rattle.mux_items.specs.Order.{is_on, IsOrdered}
use Rattle.mux_items.proofs.Keys.{same_key_refl}
use Rattle.mux_items.proofs.Staging.{Stage, Fresh, Open, Done, Over, Wrong, next_stage, stage_after, stage_by, is_open, is_fresh, is_wrong}
use Rattle.mux_items.proofs.Totals.{total-append, windows-sent}
use Rattle.mux_items.proofs.Stages.{stage_after-append, sent_stage}
use Rattle.mux_items.proofs.Heard.{next_not_fresh}

-- frames out of order stay so

wrong_with : (b own : Bool) (body : FrameBody) → (if b then next_stage own Wrong body else Wrong) ≡ Wrong
wrong_with true own body = refl
wrong_with false own body = refl

pub wrong_stays : (c : ChannelKey) (fs : List ChannelFrame) → stage_after c Wrong fs ≡ Wrong
wrong_stays c [] = refl
wrong_stays c (f ∷ fs) = ap (λ s. stage_after c s fs) (wrong_with (same_key f.key c) c.own f.body) ∙ wrong_stays c fs

pub right_before : (c : ChannelKey) (s : Stage) (fs : List ChannelFrame) → is_wrong (stage_after c s fs) ≡ false → is_wrong s ≡ false
right_before c Wrong fs e = sym (ap is_wrong (wrong_stays c fs)) ∙ e
right_before c s fs e = refl

fresh_with : (b own : Bool) (s : Stage) (body : FrameBody) → is_fresh s ≡ false → is_fresh (if b then next_stage own s body else s) ≡ false
fresh_with true own s body e = next_not_fresh own s body
fresh_with false own s body e = e

pub unfresh_stays : (c : ChannelKey) (s : Stage) (fs : List ChannelFrame) → is_fresh s ≡ false → is_fresh (stage_after c s fs) ≡ false
unfresh_stays c s [] e = e
unfresh_stays c s (f ∷ fs) e = unfresh_stays c (if same_key f.key c then next_stage c.own s f.body else s) fs (fresh_with (same_key f.key c) c.own s f.body e)

pub by_right : (t k o : Bool) → is_wrong (stage_by t k o) ≡ false
by_right true k o = refl
by_right false true o = refl
by_right false false true = refl
by_right false false false = refl

pub accepting : (own : Bool) (s : Stage) (size : Option ℕ) → is_wrong (next_stage own s (OfferAccepted size)) ≡ false → (own ≡ false) × (is_fresh s ≡ true)
accepting false Fresh size e = (refl, refl)
accepting true Fresh size e = absurd (true≢false e)
accepting own s size e = absurd (true≢false e)

-- a channel that is open gets no window again

no_window : (own : Bool) (s : Stage) (body : FrameBody) → is_fresh s ≡ false → is_wrong (next_stage own s body) ≡ false → window_in body ≡ 0
no_window own Fresh body f e = absurd (true≢false f)
no_window own Open (Offer name size) f e = absurd (true≢false e)
no_window own Open (OfferAccepted size) f e = absurd (true≢false e)
no_window own Open body f e = refl
no_window own Done (Offer name size) f e = absurd (true≢false e)
no_window own Done (OfferAccepted size) f e = absurd (true≢false e)
no_window own Done body f e = refl
no_window own s body f e = absurd (true≢false e)

pub no_windows : (c : ChannelKey) (s : Stage) (fs : List ChannelFrame) → is_fresh s ≡ false → is_wrong (stage_after c s fs) ≡ false → windows c fs ≡ 0
no_windows c s [] f e = refl
no_windows c s (g ∷ fs) f e = elim (cases_Bool (same_key g.key c)) [
  | inl same ↦
      let now : is_wrong (stage_after c (next_stage c.own s g.body) fs) ≡ false = ap (λ b. is_wrong (stage_after c (if b then next_stage c.own s g.body else s) fs)) (sym same) ∙ e in
      let none = no_window c.own s g.body f (right_before c (next_stage c.own s g.body) fs now) in
      omega (arith, ap (λ b. if b then window_in g.body else 0) same, none, no_windows c (next_stage c.own s g.body) fs (next_not_fresh c.own s g.body) now)
  | inr differ ↦
      omega (arith, ap {B = ℕ} (λ b. if b then window_in g.body else 0) differ, no_windows c s fs f (ap (λ b. is_wrong (stage_after c (if b then next_stage c.own s g.body else s) fs)) (sym differ) ∙ e))
]

-- on a fresh channel no frame was sent
pub fresh_none : (c : ChannelKey) (s : Stage) (fs : List ChannelFrame) → is_fresh (stage_after c s fs) ≡ true → (is_on c fs ≡ false) × (is_fresh s ≡ true)
fresh_none c s [] e = (refl, e)
fresh_none c s (g ∷ fs) e = elim (cases_Bool (same_key g.key c)) [
  | inl same ↦
      let now : is_fresh (stage_after c (next_stage c.own s g.body) fs) ≡ true = ap (λ b. is_fresh (stage_after c (if b then next_stage c.own s g.body else s) fs)) (sym same) ∙ e in
      absurd (true≢false (sym now ∙ unfresh_stays c (next_stage c.own s g.body) fs (next_not_fresh c.own s g.body)))
  | inr differ ↦
      let before = fresh_none c s fs (ap (λ b. is_fresh (stage_after c (if b then next_stage c.own s g.body else s) fs)) (sym differ) ∙ e) in
      (ap (λ b. b || is_on c fs) differ ∙ before.0, before.1)
]

pub none_on_windows : (c : ChannelKey) (fs : List ChannelFrame) → is_on c fs ≡ false → windows c fs ≡ 0
none_on_windows c [] e = refl
none_on_windows c (g ∷ fs) e =
    let parts = or_parts (same_key g.key c) (is_on c fs) e in
    omega (arith, ap {B = ℕ} (λ b. if b then window_in g.body else 0) parts.0, none_on_windows c fs parts.1)

-- no frame after the termination, no content after the completion
pub over_none : (c : ChannelKey) (fs : List ChannelFrame) → is_wrong (stage_after c Over fs) ≡ false → is_on c fs ≡ false
over_none c [] e = refl
over_none c (g ∷ fs) e = elim (cases_Bool (same_key g.key c)) [
  | inl same ↦
      let now : is_wrong (stage_after c Wrong fs) ≡ false = ap (λ b. is_wrong (stage_after c (if b then Wrong else Over) fs)) (sym same) ∙ e in
      absurd (true≢false (right_before c Wrong fs now))
  | inr differ ↦ ap (λ b. b || is_on c fs) differ ∙ over_none c fs (ap (λ b. is_wrong (stage_after c (if b then Wrong else Over) fs)) (sym differ) ∙ e)
]

none_on_contents : (c : ChannelKey) (fs : List ChannelFrame) → is_on c fs ≡ false → contents c fs ≡ []
none_on_contents c [] e = refl
none_on_contents c (g ∷ fs) e =
    let parts = or_parts (same_key g.key c) (is_on c fs) e in
    ap (λ b. (if b then content_of g.body else []) ++ contents c fs) parts.0 ∙ none_on_contents c fs parts.1

done_next : (own : Bool) (body : FrameBody) → is_wrong (next_stage own Done body) ≡ false → (content_of body ≡ []) × ((next_stage own Done body ≡ Done) ⊎ (next_stage own Done body ≡ Over))
done_next own ChannelTerminated e = (refl, inr refl)
done_next own (ContentProcessed count) e = (refl, inl refl)
done_next own body e = absurd (true≢false e)

pub done_quiet : (c : ChannelKey) (fs : List ChannelFrame) → is_wrong (stage_after c Done fs) ≡ false → contents c fs ≡ []
done_quiet c [] e = refl
done_quiet c (g ∷ fs) e = elim (cases_Bool (same_key g.key c)) [
  | inl same ↦
      let now : is_wrong (stage_after c (next_stage c.own Done g.body) fs) ≡ false = ap (λ b. is_wrong (stage_after c (if b then next_stage c.own Done g.body else Done) fs)) (sym same) ∙ e in
      let on = done_next c.own g.body (right_before c (next_stage c.own Done g.body) fs now) in
      let rest : contents c fs ≡ [] = elim on.1 [
        | inl d ↦ done_quiet c fs (ap (λ s. is_wrong (stage_after c s fs)) (sym d) ∙ now)
        | inr o ↦ none_on_contents c fs (over_none c fs (ap (λ s. is_wrong (stage_after c s fs)) (sym o) ∙ now))
      ] in
      ap (λ b. (if b then content_of g.body else []) ++ contents c fs) same ∙ (ap (λ bs. bs ++ contents c fs) on.0 ∙ rest)
  | inr differ ↦
      ap (λ b. (if b then content_of g.body else []) ++ contents c fs) differ ∙ done_quiet c fs (ap (λ b. is_wrong (stage_after c (if b then next_stage c.own Done g.body else Done) fs)) (sym differ) ∙ e)
]

-- where the frames of an end are cut

sent_right : (v : Version) (c : ChannelKey) (items : List Item) → Allowed v items → is_wrong (stage_after c Fresh (sent v items)) ≡ false
sent_right v c items ok = ap is_wrong (sent_stage v c items ok) ∙ by_right (termination_emitted v c items) (completion_emitted v c items) (is_open v c items)

cut_right : (v : Version) (c : ChannelKey) (items : List Item) (body : FrameBody) (before after : List ChannelFrame) → Allowed v items → sent v items ≡ before ++ frame_on c body ∷ after
    → is_wrong (stage_after c (next_stage c.own (stage_after c Fresh before) body) after) ≡ false
cut_right v c items body before after ok e =
    ap is_wrong (sym (stage_after-append c Fresh before (frame_on c body ∷ after) ∙ ap (λ b. stage_after c (if b then next_stage c.own (stage_after c Fresh before) body else stage_after c Fresh before) after) (same_key_refl c)))
    ∙ (ap (λ fs. is_wrong (stage_after c Fresh fs)) (sym e) ∙ sent_right v c items ok)

body_right : (v : Version) (c : ChannelKey) (items : List Item) (body : FrameBody) (before after : List ChannelFrame) → Allowed v items → sent v items ≡ before ++ frame_on c body ∷ after → is_wrong (next_stage c.own (stage_after c Fresh before) body) ≡ false
body_right v c items body before after ok e = right_before c (next_stage c.own (stage_after c Fresh before) body) after (cut_right v c items body before after ok e)

completed_next : (own : Bool) (s : Stage) → is_wrong (next_stage own s ContentWritingCompleted) ≡ false → next_stage own s ContentWritingCompleted ≡ Done
completed_next own Open e = refl
completed_next true Fresh e = absurd (true≢false e)
completed_next false Fresh e = absurd (true≢false e)
completed_next own s e = absurd (true≢false e)

terminated_next : (own : Bool) (s : Stage) → is_wrong (next_stage own s ChannelTerminated) ≡ false → next_stage own s ChannelTerminated ≡ Over
terminated_next true Fresh e = absurd (true≢false e)
terminated_next false Fresh e = refl
terminated_next own Open e = refl
terminated_next own Done e = refl
terminated_next own s e = absurd (true≢false e)

pub ordered : (v : Version) (c : ChannelKey) (items : List Item) → Allowed v items → IsOrdered v c items
ordered v c items ok = record {
  acceptance_first = λ size before after e.
      (fresh_none c Fresh before (accepting c.own (stage_after c Fresh before) size (body_right v c items (OfferAccepted size) before after ok e)).1).0;
  whole_window = λ two size before after e.
      let none = (fresh_none c Fresh before (accepting c.own (stage_after c Fresh before) size (body_right v c items (OfferAccepted size) before after ok e)).1).0 in
      let rest = no_windows c (next_stage c.own (stage_after c Fresh before) (OfferAccepted size)) after (next_not_fresh c.own (stage_after c Fresh before) (OfferAccepted size)) (cut_right v c items (OfferAccepted size) before after ok e) in
      omega (
        arith,
        windows-sent v c items two,
        ap (windows c) e,
        total-append window_in c before (frame_on c (OfferAccepted size) ∷ after),
        none_on_windows c before none,
        ap {B = ℕ} (λ b. if b then window_of size else 0) (same_key_refl c),
        rest,
      );
  completion_last = λ before after e.
      done_quiet c after (ap (λ s. is_wrong (stage_after c s after)) (sym (completed_next c.own (stage_after c Fresh before) (body_right v c items ContentWritingCompleted before after ok e))) ∙ cut_right v c items ContentWritingCompleted before after ok e);
  termination_last = λ before after e.
      over_none c after (ap (λ s. is_wrong (stage_after c s after)) (sym (terminated_next c.own (stage_after c Fresh before) (body_right v c items ChannelTerminated before after ok e))) ∙ cut_right v c items ChannelTerminated before after ok e);
}
