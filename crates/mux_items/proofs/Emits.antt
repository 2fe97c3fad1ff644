-- When an item makes neither content nor the completion due.
use Rattle.std.specs.Prelude.{List, [], ◌∷◌, length, Bool, true, false, ◌==◌, ◌&&◌, ◌||◌, if◌then◌else◌}
use Rattle.std.proofs.Common.{◌≡◌, ◌⊎◌, inl, inr, refl, sym, ◌∙◌, ap, arith}
use Rattle.std.proofs.lemmas.Bool.{cases_Bool, true≢false, false≢true, and_parts, eqb-true, false_from_ne_true}
use Rattle.wire_base.specs.declared.frame.Version.{Version}
use Rattle.mux_items.specs.declared.channel.ChannelKey.{ChannelKey}
use Rattle.mux_items.specs.Bodies.{same_key}
use Rattle.mux_items.specs.Items.{Item, DidWrite, DidComplete, Rejected}
use Rattle.mux_items.specs.Lists.{written, is_offered, has_completed, has_terminated, is_terminated_by_peer, is_rejected, is_cut, before_cut, is_accepted_in, emitted_in, emitted, completion_in, completion_emitted, is_finished, termination_emitted, is_accepted}
use Rattle.mux_items.specs.Due.{newly_emitted}
use Rattle.mux_items.specs.Applying.{Allowed}
use Rattle.mux_items.proofs.Keys.{key_cases}
use Rattle.mux_items.proofs.Emission.{emitted_in_more, emitted_in_bound, no_cut, cut_there, no_cut_before, before_cut_cases, span_none}
use Rattle.mux_items.proofs.Permits.{write_permits, complete_permits}
use Rattle.mux_items.proofs.Applied.{allowed_tail}
use Rattle.mux_items.proofs.Taking.{completion_in_more, rejected_more, written_once_completed}
use Rattle.mux_items.proofs.Open.{uncut_both, accepted_step, accepted_heard, rejected_terminated}
use Rattle.mux_items.proofs.Offered.{offered_else, rejected_first, accepted_offered, never_written, never_completed}
use Rattle.mux_items.proofs.Staging.{is_open}

pub none_emitted : (v : Version) (c : ChannelKey) (item : Item) (items : List Item) → emitted v c (item ∷ items) ≡ emitted v c items → newly_emitted v c item items ≡ []
none_emitted v c item items e = span_none (emitted v c items) (emitted v c (item ∷ items)) (written c (item ∷ items)) e

-- after the completion nothing is emitted

pub completion_in_all : (v : Version) (c : ChannelKey) (items : List Item) → completion_in v c items ≡ true → (is_accepted_in c items ≡ true) × (has_completed c items ≡ true) × (emitted_in v c items ≡ length (written c items))
completion_in_all v c items e =
    let outer = and_parts (is_accepted_in c items && has_completed c items) (emitted_in v c items == length (written c items)) e in
    let inner = and_parts (is_accepted_in c items) (has_completed c items) outer.0 in
    (inner.0, inner.1, eqb-true (emitted_in v c items) (length (written c items)) outer.1)

emitted_in_done : (v : Version) (c : ChannelKey) (item : Item) (items : List Item) → Allowed v (item ∷ items) → completion_in v c items ≡ true → emitted_in v c (item ∷ items) ≡ emitted_in v c items
emitted_in_done v c item items ok e =
    let all = completion_in_all v c items e in
    let same : length (written c (item ∷ items)) ≡ length (written c items) = ap length (written_once_completed v c item items ok all.1) in
    omega (arith, all.2, same, emitted_in_more v c item items, emitted_in_bound v c (item ∷ items))

pub done_more : (v : Version) (c : ChannelKey) (item : Item) (items : List Item) → Allowed v (item ∷ items) → completion_emitted v c items ≡ true → completion_emitted v c (item ∷ items) ≡ true
done_more v c item items ok e = elim (before_cut_cases c item items) [
  | inl s ↦ ap (completion_in v c) s ∙ e
  | inr s ↦ ap (completion_in v c) s.0 ∙ completion_in_more v c item items ok (sym (ap (completion_in v c) s.1) ∙ e)
]

pub emitted_done : (v : Version) (c : ChannelKey) (item : Item) (items : List Item) → Allowed v (item ∷ items) → completion_emitted v c items ≡ true → emitted v c (item ∷ items) ≡ emitted v c items
emitted_done v c item items ok e = elim (before_cut_cases c item items) [
  | inl s ↦ ap (emitted_in v c) s
  | inr s ↦ ap (emitted_in v c) s.0 ∙ (emitted_in_done v c item items ok (sym (ap (completion_in v c) s.1) ∙ e) ∙ sym (ap (emitted_in v c) s.1))
]

-- on a rejected channel nothing is written

pub record IsUntouched (c : ChannelKey) (items : List Item) : Type 0 where
  pub unwritten : written c items ≡ []
  pub uncompleted : has_completed c items ≡ false

-- a call is made on channels that aren't rejected
unrejected : (v : Version) (c key : ChannelKey) (items : List Item) → is_rejected c items ≡ true → termination_emitted v key items ≡ false → same_key key c ≡ false
unrejected v c key items e heard = elim (key_cases key c) [
  | inl same ↦ absurd (true≢false (sym (rejected_terminated v c items e) ∙ (ap (λ k. termination_emitted v k items) (sym same) ∙ heard)))
  | inr differ ↦ differ
]

pub untouched : (v : Version) (c : ChannelKey) (items : List Item) → Allowed v items → is_rejected c items ≡ true → IsUntouched c items
untouched v c [] ok e = absurd (false≢true e)
untouched v c (Rejected place key body ∷ items) ok e = elim (key_cases key c) [
  | inl same ↦
      let new : is_offered c items ≡ false = ap (λ k. is_offered k items) (sym same) ∙ (rejected_first v key body items ok.0.unrefused ok.1).1 in
      record { unwritten = never_written v c items ok.2 new; uncompleted = never_completed v c items ok.2 new }
  | inr differ ↦
      let before = untouched v c items ok.2 (offered_else (same_key key c) (is_rejected c items) differ e) in
      record { unwritten = before.unwritten; uncompleted = before.uncompleted }
]
untouched v c (DidWrite key bytes ∷ items) ok e =
    let differ = unrejected v c key items e (write_permits v key bytes items ok.0).call.heard in
    let before = untouched v c items ok.1 e in
    record { unwritten = rw differ before.unwritten; uncompleted = before.uncompleted }
untouched v c (DidComplete key ∷ items) ok e =
    let differ = unrejected v c key items e (complete_permits v key items ok.0).call.heard in
    let before = untouched v c items ok.1 e in
    record { unwritten = before.unwritten; uncompleted = rw differ before.uncompleted }
untouched v c (item ∷ items) ok e =
    let before = untouched v c items (allowed_tail v item items ok) e in
    record { unwritten = before.unwritten; uncompleted = before.uncompleted }

-- after the termination no content is emitted, and no completion

-- an item that emits nothing on the channel, and completes nothing
pub record IsStill (v : Version) (c : ChannelKey) (item : Item) (items : List Item) : Type 0 where
  pub emitted : emitted v c (item ∷ items) ≡ emitted v c items
  pub completion : completion_emitted v c (item ∷ items) ≡ true → completion_emitted v c items ≡ true

still_by : (v : Version) (c : ChannelKey) (item : Item) (items : List Item) → before_cut c (item ∷ items) ≡ before_cut c items → IsStill v c item items
still_by v c item items e = record { emitted = ap (emitted_in v c) e; completion = λ done. sym (ap (completion_in v c) e) ∙ done }

none_written : (v : Version) (c : ChannelKey) (items : List Item) → written c items ≡ [] → emitted_in v c items ≡ 0
none_written v c items e = omega (arith, emitted_in_bound v c items, ap length e)

over_by : (h p r f : Bool) → h ≡ false → p ≡ false → (h || p || r || f) ≡ true → (r ≡ true) ⊎ (f ≡ true)
over_by true p r f a b e = absurd (true≢false a)
over_by false true r f a b e = absurd (true≢false b)
over_by false false true f a b e = inl refl
over_by false false false f a b e = inr e

pub still_over : (v : Version) (c : ChannelKey) (item : Item) (items : List Item) → Allowed v (item ∷ items) → termination_emitted v c items ≡ true → IsStill v c item items
still_over v c item items ok over = elim (cases_Bool (is_cut c (item ∷ items))) [
  | inl cut ↦ still_by v c item items (cut_there c item items cut)
  | inr whole ↦
      let now = no_cut c (item ∷ items) whole in
      let older = no_cut_before c item items whole in
      let before = no_cut c items older in
      let quiet = uncut_both c items older in
      elim (over_by (has_terminated c items) (is_terminated_by_peer c items) (is_rejected c items) (is_finished v c items) quiet.0 quiet.1 over) [
        | inl r ↦
            let later = untouched v c (item ∷ items) ok (rejected_more c item items r) in
            let earlier = untouched v c items (allowed_tail v item items ok) r in
            record {
              emitted = ap (emitted_in v c) now ∙ (none_written v c (item ∷ items) later.unwritten ∙ sym (ap (emitted_in v c) before ∙ none_written v c items earlier.unwritten));
              completion = λ e. absurd (true≢false (sym (completion_in_all v c (item ∷ items) (sym (ap (completion_in v c) now) ∙ e)).1 ∙ later.uncompleted));
            }
        | inr f ↦
            let done = (and_parts (completion_emitted v c items) _ f).0 in
            record { emitted = emitted_done v c item items ok done; completion = λ e. done }
      ]
]

-- what is emitted is emitted on an open channel

pub open_offered : (v : Version) (c : ChannelKey) (items : List Item) → is_offered c items ≡ true → c.own ≡ true → is_open v c items ≡ true
open_offered v c items e own = ap (λ b. if b then is_offered c items else is_accepted v c items) own ∙ e

pub open_accepted : (v : Version) (c : ChannelKey) (items : List Item) → is_accepted v c items ≡ true → c.own ≡ false → is_open v c items ≡ true
open_accepted v c items e own = ap (λ b. if b then is_offered c items else is_accepted v c items) own ∙ e

pub accepted_is_open : (v : Version) (c : ChannelKey) (items : List Item) → Allowed v items → is_accepted v c items ≡ true → is_open v c items ≡ true
accepted_is_open v c items ok e = elim (cases_Bool c.own) [
  | inl own ↦ open_offered v c items (accepted_offered v c items ok e) own
  | inr peer ↦ open_accepted v c items e peer
]

shut_unaccepted : (v : Version) (c : ChannelKey) (item : Item) (items : List Item) → Allowed v (item ∷ items) → termination_emitted v c items ≡ false → is_open v c (item ∷ items) ≡ false → is_accepted_in c (item ∷ items) ≡ false
shut_unaccepted v c item items ok heard shut =
    let same : is_accepted_in c (item ∷ items) ≡ is_accepted v c (item ∷ items) = accepted_step v c item items heard (accepted_heard v c items (allowed_tail v item items ok) heard) in
    same ∙ false_from_ne_true (is_accepted v c (item ∷ items)) (λ a. false≢true (sym shut ∙ accepted_is_open v c (item ∷ items) ok a))

pub still_shut : (v : Version) (c : ChannelKey) (item : Item) (items : List Item) → Allowed v (item ∷ items) → termination_emitted v c items ≡ false → is_open v c (item ∷ items) ≡ false → IsStill v c item items
still_shut v c item items ok heard shut = elim (before_cut_cases c item items) [
  | inl s ↦ still_by v c item items s
  | inr s ↦
      let none = shut_unaccepted v c item items ok heard shut in
      let now : emitted_in v c (item ∷ items) ≡ 0 = rw none refl in
      record {
        emitted = ap (emitted_in v c) s.0 ∙ (omega (arith, now, emitted_in_more v c item items) ∙ sym (ap (emitted_in v c) s.1));
        completion = λ e. absurd (true≢false (sym (completion_in_all v c (item ∷ items) (sym (ap (completion_in v c) s.0) ∙ e)).0 ∙ none));
      }
]
