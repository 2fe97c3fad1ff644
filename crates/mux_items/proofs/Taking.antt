-- What was taken from a channel is a front of the content that came on it.
use Rattle.std.specs.Prelude.{ℕ, zero, suc, ◌+◌, ◌-◌, ◌≤◌, min, List, [], ◌∷◌, ◌++◌, length, take, drop, Bool, true, false, not, ◌&&◌, ◌||◌, ◌==◌, nat_le, if◌then◌else◌}
use Rattle.std.proofs.Common.{◌≡◌, inl, inr, refl, sym, ◌∙◌, ap, subst, arith, length-append, append_assoc}
use Rattle.std.proofs.lemmas.Bool.{cases_Bool, true≢false, false≢true, and_parts, and_from, or_left, or_right, eqb-true, eq-eqb}
use Rattle.std.proofs.lemmas.List.{append-nil, length-drop, take_min, take-append-le}
use Rattle.std.proofs.Math.Seq.{take-add}
use Rattle.mux_items.specs.declared.channel.ChannelKey.{ChannelKey}
use Rattle.wire_base.specs.declared.frame.Version.{Version}
use Rattle.mux_items.specs.Bodies.{FrameBody, Offer, OfferAccepted, Content, ContentWritingCompleted, ChannelTerminated, ContentProcessed, ChannelFrame, frame_on, same_key}
use Rattle.mux_items.specs.Items.{Item, DidWrite, DidRead, DidComplete, DidTerminate, Got, Rejected}
use Rattle.mux_items.specs.Limits.{most_channels}
use Rattle.mux_items.specs.Kept.{kept_keys}
use Rattle.mux_items.specs.Lists.{written, is_accepted_in, is_completed_in, emitted_in, completion_in, has_completed, has_terminated, is_terminated_by_peer, is_rejected, is_finished, termination_emitted, heeds, taken, handed, read_bytes, is_dropped, unread_count, unread}
use Rattle.mux_items.specs.Due.{got, content_of, content_on, contents}
use Rattle.mux_items.specs.Applying.{Allowed, is_offer}
use Rattle.mux_items.proofs.Keys.{same_key_true}
use Rattle.mux_items.proofs.Emission.{if_or, contents-append, no_body_content, accepted_in_more, emitted_in_more, emitted_in_bound, before_cut_cases}
use Rattle.mux_items.proofs.Permits.{write_permits}
use Rattle.mux_items.proofs.Applied.{allowed_tail}

unread_count_bound : (dropped : Bool) (took moved : ℕ) → moved ≤ took → moved + unread_count dropped took moved ≤ took
unread_count_bound true took moved le = omega arith
unread_count_bound false took moved le = omega arith

if_append : (b : Bool) (xs ys : List ℕ) → length xs ≤ length (if b then xs ++ ys else xs)
if_append true xs ys = omega (arith, length-append xs ys)
if_append false xs ys = omega arith

pub taken_grows : (v : Version) (c : ChannelKey) (item : Item) (items : List Item) → length (taken v c items) ≤ length (taken v c (item ∷ items))
taken_grows v c (Got place key (Content bytes)) items = if_append (heeds v key c items) (taken v c items) bytes
taken_grows v c item items = omega arith

-- no read moves more than was taken
pub handed_bound : (v : Version) (c : ChannelKey) (items : List Item) → handed v c items ≤ length (taken v c items)
handed_bound v c [] = omega arith
handed_bound v c (DidRead key max ∷ items) = elim (cases_Bool (same_key key c)) [
  | inl e ↦ rw e (omega (arith, handed_bound v c items, unread_count_bound (is_dropped v c items) (length (taken v c items)) (handed v c items) (handed_bound v c items)))
  | inr e ↦ rw e (handed_bound v c items)
]
handed_bound v c (item ∷ items) = omega (arith, handed_bound v c items, taken_grows v c item items)

-- what stays so once it is so
pub completed_more : (c : ChannelKey) (item : Item) (items : List Item) → has_completed c items ≡ true → has_completed c (item ∷ items) ≡ true
completed_more c (DidComplete key) items e = if_or (same_key key c) (has_completed c items) e
completed_more c item items e = e

pub terminated_more : (c : ChannelKey) (item : Item) (items : List Item) → has_terminated c items ≡ true → has_terminated c (item ∷ items) ≡ true
terminated_more c (DidTerminate key) items e = if_or (same_key key c) (has_terminated c items) e
terminated_more c item items e = e

pub by_peer_more : (c : ChannelKey) (item : Item) (items : List Item) → is_terminated_by_peer c items ≡ true → is_terminated_by_peer c (item ∷ items) ≡ true
by_peer_more c (Got place key ChannelTerminated) items e = if_or (same_key key c) (is_terminated_by_peer c items) e
by_peer_more c item items e = e

pub rejected_more : (c : ChannelKey) (item : Item) (items : List Item) → is_rejected c items ≡ true → is_rejected c (item ∷ items) ≡ true
rejected_more c (Rejected place key body) items e = if_or (same_key key c) (is_rejected c items) e
rejected_more c item items e = e

pub completed_in_more : (c : ChannelKey) (item : Item) (items : List Item) → is_completed_in c items ≡ true → is_completed_in c (item ∷ items) ≡ true
completed_in_more c (Got place key ContentWritingCompleted) items e = if_or (same_key key c) (is_completed_in c items) e
completed_in_more c item items e = e

-- nothing is written after the own completion
pub written_once_completed : (v : Version) (c : ChannelKey) (item : Item) (items : List Item) → Allowed v (item ∷ items) → has_completed c items ≡ true → written c (item ∷ items) ≡ written c items
written_once_completed v c (DidWrite key bytes) items ok done = elim (cases_Bool (same_key key c)) [
  | inl same ↦ absurd (true≢false (sym done ∙ subst (λ k. has_completed k items ≡ false) (same_key_true key c same) (write_permits v key bytes items ok.0).uncompleted))
  | inr differ ↦ rw differ refl
]
written_once_completed v c item items ok done = refl

-- so the own completion stays emitted
pub completion_in_more : (v : Version) (c : ChannelKey) (item : Item) (items : List Item) → Allowed v (item ∷ items) → completion_in v c items ≡ true → completion_in v c (item ∷ items) ≡ true
completion_in_more v c item items ok e =
    let outer = and_parts (is_accepted_in c items && has_completed c items) (emitted_in v c items == length (written c items)) e in
    let inner = and_parts (is_accepted_in c items) (has_completed c items) outer.0 in
    let all : emitted_in v c items ≡ length (written c items) = eqb-true (emitted_in v c items) (length (written c items)) outer.1 in
    let same : length (written c (item ∷ items)) ≡ length (written c items) = ap length (written_once_completed v c item items ok inner.1) in
    and_from (is_accepted_in c (item ∷ items) && has_completed c (item ∷ items)) (emitted_in v c (item ∷ items) == length (written c (item ∷ items)))
    (and_from (is_accepted_in c (item ∷ items)) (has_completed c (item ∷ items)) (accepted_in_more c item items inner.0) (completed_more c item items inner.1))
    (eq-eqb (emitted_in v c (item ∷ items)) (length (written c (item ∷ items))) (omega (arith, emitted_in_more v c item items, emitted_in_bound v c (item ∷ items), all, same)))

abbrev pub finished_in : Version → ChannelKey → List Item → Bool
finished_in v c items = completion_in v c items && is_completed_in c items

finished_in_more : (v : Version) (c : ChannelKey) (item : Item) (items : List Item) → Allowed v (item ∷ items) → finished_in v c items ≡ true → finished_in v c (item ∷ items) ≡ true
finished_in_more v c item items ok e =
    let both = and_parts (completion_in v c items) (is_completed_in c items) e in
    and_from (completion_in v c (item ∷ items)) (is_completed_in c (item ∷ items)) (completion_in_more v c item items ok both.0) (completed_in_more c item items both.1)

pub finished_more : (v : Version) (c : ChannelKey) (item : Item) (items : List Item) → Allowed v (item ∷ items) → is_finished v c items ≡ true → is_finished v c (item ∷ items) ≡ true
finished_more v c item items ok e = elim (before_cut_cases c item items) [
  | inl same ↦ ap (finished_in v c) same ∙ e
  | inr whole ↦ ap (finished_in v c) whole.0 ∙ finished_in_more v c item items ok (sym (ap (finished_in v c) whole.1) ∙ e)
]

or_more : (a b a' b' : Bool) → (a ≡ true → a' ≡ true) → (b ≡ true → b' ≡ true) → (a || b) ≡ true → (a' || b') ≡ true
or_more true b a' b' f g e = or_left a' b' (f refl)
or_more false b a' b' f g e = or_right a' b' (g e)

-- the own termination stays emitted
pub termination_more : (v : Version) (c : ChannelKey) (item : Item) (items : List Item) → termination_emitted v c items ≡ true → Allowed v (item ∷ items) → termination_emitted v c (item ∷ items) ≡ true
termination_more v c item items e ok =
    or_more (has_terminated c items || is_terminated_by_peer c items || is_rejected c items) (is_finished v c items) (has_terminated c (item ∷ items) || is_terminated_by_peer c (item ∷ items) || is_rejected c (item ∷ items)) (is_finished v c (item ∷ items))
    (or_more (has_terminated c items || is_terminated_by_peer c items) (is_rejected c items) (has_terminated c (item ∷ items) || is_terminated_by_peer c (item ∷ items)) (is_rejected c (item ∷ items))
    (or_more (has_terminated c items) (is_terminated_by_peer c items) (has_terminated c (item ∷ items)) (is_terminated_by_peer c (item ∷ items)) (terminated_more c item items) (by_peer_more c item items))
    (rejected_more c item items))
    (finished_more v c item items ok)
    e

quiet_if : (same terminated : Bool) (xs ys : List ℕ) → terminated ≡ true → (if same && not terminated then xs ++ ys else xs) ≡ xs
quiet_if true true xs ys e = refl
quiet_if false true xs ys e = refl
quiet_if same false xs ys e = absurd (false≢true e)

-- nothing is taken once the own termination is emitted
pub taken_quiet : (v : Version) (c : ChannelKey) (item : Item) (items : List Item) → termination_emitted v c items ≡ true → taken v c (item ∷ items) ≡ taken v c items
taken_quiet v c (Got place key (Content bytes)) items e = quiet_if (same_key key c) (termination_emitted v c items) (taken v c items) bytes e
taken_quiet v c item items e = refl

pub got_more : (item : Item) (items : List Item) → (more : List ChannelFrame) × (got (item ∷ items) ≡ got items ++ more)
got_more (Got place key body) items = (frame_on key body ∷ [], refl)
got_more (Rejected place key body) items = (frame_on key body ∷ [], refl)
got_more item items = ([], sym (append-nil (got items)))

contents-push : (c key : ChannelKey) (body : FrameBody) (frames : List ChannelFrame) → contents c (frames ++ frame_on key body ∷ []) ≡ contents c frames ++ content_on c (frame_on key body)
contents-push c key body frames = contents-append c frames (frame_on key body ∷ []) ∙ ap (λ bs. contents c frames ++ bs) (append-nil (content_on c (frame_on key body)))

contents-other : (c key : ChannelKey) (body : FrameBody) (frames : List ChannelFrame) → content_of body ≡ [] → contents c (frames ++ frame_on key body ∷ []) ≡ contents c frames
contents-other c key body frames e = contents-push c key body frames ∙ (ap (λ bs. contents c frames ++ bs) (no_body_content c key body e) ∙ append-nil (contents c frames))

content_step : (same terminated : Bool) (xs ys bytes : List ℕ) → terminated ≡ false → xs ≡ ys → (if same && not terminated then xs ++ bytes else xs) ≡ ys ++ (if same then bytes else [])
content_step same true xs ys bytes heard e = absurd (true≢false heard)
content_step true false xs ys bytes heard e = ap (λ l. l ++ bytes) e
content_step false false xs ys bytes heard e = e ∙ sym (append-nil ys)

offer_content : (body : FrameBody) → is_offer body ≡ true → content_of body ≡ []
offer_content (Content bytes) e = absurd (false≢true e)
offer_content body e = refl

-- until then all content is taken
exact_step : (v : Version) (c : ChannelKey) (item : Item) (items : List Item) → termination_emitted v c items ≡ false → Allowed v (item ∷ items) → taken v c items ≡ contents c (got items) → taken v c (item ∷ items) ≡ contents c (got (item ∷ items))
exact_step v c (Got place key (Content bytes)) items heard ok e = content_step (same_key key c) (termination_emitted v c items) (taken v c items) (contents c (got items)) bytes heard e ∙ sym (contents-push c key (Content bytes) (got items))
exact_step v c (Got place key (Offer name size)) items heard ok e = e ∙ sym (contents-other c key (Offer name size) (got items) refl)
exact_step v c (Got place key (OfferAccepted size)) items heard ok e = e ∙ sym (contents-other c key (OfferAccepted size) (got items) refl)
exact_step v c (Got place key ContentWritingCompleted) items heard ok e = e ∙ sym (contents-other c key ContentWritingCompleted (got items) refl)
exact_step v c (Got place key ChannelTerminated) items heard ok e = e ∙ sym (contents-other c key ChannelTerminated (got items) refl)
exact_step v c (Got place key (ContentProcessed count)) items heard ok e = e ∙ sym (contents-other c key (ContentProcessed count) (got items) refl)
exact_step v c (Rejected place key body) items heard ok e = e ∙ sym (contents-other c key body (got items) (offer_content body (and_parts (is_offer body) (nat_le most_channels (length (kept_keys v items))) ok.1).0))
exact_step v c item items heard ok e = e

pub taken_exact : (v : Version) (c : ChannelKey) (items : List Item) → termination_emitted v c items ≡ false → Allowed v items → taken v c items ≡ contents c (got items)
taken_exact v c [] heard ok = refl
taken_exact v c (item ∷ items) heard ok = elim (cases_Bool (termination_emitted v c items)) [
  | inl e ↦ absurd (true≢false (sym (termination_more v c item items e ok) ∙ heard))
  | inr e ↦ exact_step v c item items e ok (taken_exact v c items e (allowed_tail v item items ok))
]

front_stays : (v : Version) (c : ChannelKey) (item : Item) (items : List Item) (rest : List ℕ) → termination_emitted v c items ≡ true → taken v c items ++ rest ≡ contents c (got items)
    → taken v c (item ∷ items) ++ (rest ++ contents c (got_more item items).0) ≡ contents c (got (item ∷ items))
front_stays v c item items rest ended e =
    let more = contents c (got_more item items).0 in
    ap (λ bs. bs ++ (rest ++ more)) (taken_quiet v c item items ended)
    ∙ (sym (append_assoc (taken v c items) rest more)
    ∙ (ap (λ bs. bs ++ more) e
    ∙ (sym (contents-append c (got items) (got_more item items).0)
    ∙ sym (ap (contents c) (got_more item items).1))))

pub taken_front : (v : Version) (c : ChannelKey) (items : List Item) → Allowed v items → (rest : List ℕ) × (taken v c items ++ rest ≡ contents c (got items))
taken_front v c [] ok = ([], refl)
taken_front v c (item ∷ items) ok = elim (cases_Bool (termination_emitted v c items)) [
  | inl e ↦
      let before = taken_front v c items (allowed_tail v item items ok) in
      (before.0 ++ contents c (got_more item items).0, front_stays v c item items before.0 e before.1)
  | inr e ↦ ([], append-nil (taken v c (item ∷ items)) ∙ exact_step v c item items e ok (taken_exact v c items e (allowed_tail v item items ok)))
]

-- the bytes that reads answered are, in order, the taken ones that were handed over

read_none : (max moved : ℕ) (bytes : List ℕ) → take moved bytes ++ [] ≡ take (moved + min max 0) bytes
read_none max moved bytes = append-nil (take moved bytes) ∙ ap (λ n. take n bytes) (omega arith)

read_more : (max moved : ℕ) (bytes : List ℕ) → take moved bytes ++ take max (drop moved bytes) ≡ take (moved + min max (length bytes - moved)) bytes
read_more max moved bytes =
    ap (λ bs. take moved bytes ++ bs) (sym (take_min max (drop moved bytes)))
    ∙ (ap (λ n. take moved bytes ++ take (min max n) (drop moved bytes)) (length-drop moved bytes)
    ∙ sym (take-add moved (min max (length bytes - moved)) bytes))

take_nothing : (n : ℕ) → take {A = ℕ} n [] ≡ []
take_nothing zero = refl
take_nothing (suc n) = refl

read_by : (dropped : Bool) (max moved : ℕ) (bytes : List ℕ) → take moved bytes ++ take max (if dropped then [] else drop moved bytes) ≡ take (moved + min max (unread_count dropped (length bytes) moved)) bytes
read_by true max moved bytes = ap (λ bs. take moved bytes ++ bs) (take_nothing max) ∙ read_none max moved bytes
read_by false max moved bytes = read_more max moved bytes

read_came : (moved : ℕ) (heeded : Bool) (bytes more : List ℕ) → moved ≤ length bytes → take moved bytes ≡ take moved (if heeded then bytes ++ more else bytes)
read_came moved true bytes more h = sym (take-append-le moved bytes more h)
read_came moved false bytes more h = refl

pub read_bytes-is : (v : Version) (c : ChannelKey) (items : List Item) → read_bytes v c items ≡ take (handed v c items) (taken v c items)
read_bytes-is v c [] = refl
read_bytes-is v c (DidRead key max ∷ items) = elim (cases_Bool (same_key key c)) [
  | inl e ↦ rw e (ap (λ bs. bs ++ take max (unread v c items)) (read_bytes-is v c items) ∙ read_by (is_dropped v c items) max (handed v c items) (taken v c items))
  | inr e ↦ rw e (read_bytes-is v c items)
]
read_bytes-is v c (Got place key (Content bytes) ∷ items) = read_bytes-is v c items ∙ read_came (handed v c items) (heeds v key c items) (taken v c items) bytes (handed_bound v c items)
read_bytes-is v c (item ∷ items) = read_bytes-is v c items
