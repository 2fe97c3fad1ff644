-- What an end keeps says all that its items say.
use Rattle.std.specs.Prelude.{ℕ, ◌+◌, List, [], ◌∷◌, ◌++◌, length, map, filter, Bool, true, false, not, ◌&&◌, ◌||◌, nat_le, if◌then◌else◌, Some, None}
use Rattle.std.specs.List.{list_any, fold}
use Rattle.std.proofs.Common.{◌≡◌, inl, inr, refl, sym, ◌∙◌, ap, subst, arith}
use Rattle.std.proofs.lemmas.Bool.{cases_Bool, true≢false, and_parts, or_parts, not-false}
use Rattle.wire_base.specs.declared.frame.Version.{Version}
use Rattle.wire_base.specs.declared.reason.Reason.TheVariants as reason
use Rattle.mux_items.specs.declared.channel.ChannelKey.{ChannelKey}
use Rattle.mux_items.specs.declared.channel.Tally.{Tally}
use Rattle.mux_items.specs.Bodies.{FrameBody, Offer, OfferAccepted, Content, ContentWritingCompleted, ChannelTerminated, ContentProcessed, same_key}
use Rattle.mux_items.specs.Items.{Item, DidOffer, Got, Rejected, ended, party_of}
use Rattle.mux_items.specs.Lists.{is_offered, is_rejected, is_closed, unread, window, termination_emitted, is_terminated_by_peer}
use Rattle.mux_items.specs.Limits.{most_channels}
use Rattle.mux_items.specs.Kept.{keys, is_known, has_bytes, is_kept, kept_keys, own_windows, own_offers, own_id, next_key}
use Rattle.mux_items.specs.Refusals.{unless_ended, accept_refusal, write_refusal, read_refusal, complete_refusal, terminate_refusal, offer_refusal, heeded_refusal, later_refusal, frame_refusal}
use Rattle.mux_items.specs.Applying.{Allowed, lacks_room, is_offer}
use Rattle.mux_items.specs.Views.{view_of, tally_of, known_keys}
use Rattle.mux_items.proofs.Keys.{same_key_true}
use Rattle.mux_items.proofs.Applied.{allowed_tail}
use Rattle.mux_items.proofs.Offered.{heard_first, known_offered, offered_first, rejected_first}
use Rattle.mux_items.proofs.Open.{rejected_terminated}
use Rattle.mux_state.specs.State.{ChannelState, channel_at, kept_state}
use Rattle.mux_state.specs.Tests.{on_kept, accept_test, write_test, read_test, writing_test, open_test, view_on, tally_in, frame_test}
use Rattle.mux_state.specs.Book.{Standing, Kept, Gone, standing_of, entry_of, rejected_keys, book_of, find, found, kept_in, is_found, has_offer, is_kept_standing, kept_window, kept_count, windows_in, own_count, drawn_key, offer_test, has_room, frame_on_found, frame_in, tally_found, known_in}
use Rattle.mux_state.proofs.Known.{clash}
use Rattle.mux_state.proofs.Orders.{turned, any_in_order, count_in_order, sum_in_order}
use Rattle.mux_state.proofs.Refusing.{accept_by_state, write_by_state, read_by_state, complete_by_state, terminate_by_state, frame_by_state, view_by_state}

-- an entry is found exactly where the channel is known
find_in : (v : Version) (c : ChannelKey) (items : List Item) (cs : List ChannelKey) → find c (map (entry_of v items) cs) ≡ (if list_any (same_key c) cs then Some (standing_of v c items) else None)
find_in v c items [] = refl
find_in v c items (d ∷ ds) = elim (cases_Bool (same_key c d)) [
  | inl e ↦ rw e (ap (λ k. Some (standing_of v k items)) (sym (same_key_true c d e)))
  | inr e ↦ rw e (find_in v c items ds)
]

pub found_is : (v : Version) (c : ChannelKey) (items : List Item) → found c (book_of v items) ≡ (if is_known c items then Some (standing_of v c items) else None)
found_is v c items = find_in v c items (known_keys items) ∙ ap (λ b. if b then Some (standing_of v c items) else None) (any_in_order (same_key c) (keys items))

kept_if : (known left : Bool) (now : ChannelState) (tally : Tally) → kept_in (if known then Some (if known && left then Kept now else Gone tally) else None) ≡ (if known && left then Some now else None)
kept_if true true now tally = refl
kept_if true false now tally = refl
kept_if false left now tally = refl

-- kept channels
pub kept_found : (v : Version) (c : ChannelKey) (items : List Item) → kept_in (found c (book_of v items)) ≡ kept_state v c items
kept_found v c items = ap kept_in (found_is v c items) ∙ kept_if (is_known c items) (not (is_closed v c items) || has_bytes (unread v c items)) (channel_at v c items) (tally_in (channel_at v c items))

count_in : (v : Version) (items : List Item) (cs : List ChannelKey) → length (filter (λ entry. is_kept_standing entry.standing) (map (entry_of v items) cs)) ≡ length (filter (λ c. is_kept v c items) cs)
count_in v items [] = refl
count_in v items (c ∷ cs) = elim (cases_Bool (is_kept v c items)) [
  | inl f ↦ rw f (omega (arith, count_in v items cs))
  | inr f ↦ rw f (count_in v items cs)
]

pub kept_count_is : (v : Version) (items : List Item) → kept_count (book_of v items) ≡ length (kept_keys v items)
kept_count_is v items = count_in v items (known_keys items) ∙ count_in_order (λ c. is_kept v c items) (keys items)

windows_of : (v : Version) (items : List Item) (sum : ℕ) (cs : List ChannelKey) → fold (λ a entry. a + kept_window entry.standing) sum (map (entry_of v items) cs) ≡ fold (λ a c. a + kept_window (standing_of v c items)) sum cs
windows_of v items sum [] = refl
windows_of v items sum (c ∷ cs) = windows_of v items (sum + kept_window (standing_of v c items)) cs

windows_kept : (v : Version) (items : List Item) (sum : ℕ) (cs : List ChannelKey) → fold (λ a c. a + kept_window (standing_of v c items)) sum cs ≡ fold (λ a c. a + window c items) sum (filter (λ c. is_kept v c items) cs)
windows_kept v items sum [] = refl
windows_kept v items sum (c ∷ cs) = elim (cases_Bool (is_kept v c items)) [
  | inl f ↦ rw f (windows_kept v items (sum + window c items) cs)
  | inr f ↦ rw f (ap (λ n. fold (λ a k. a + kept_window (standing_of v k items)) n cs) (omega arith) ∙ windows_kept v items sum cs)
]

pub windows_are : (v : Version) (items : List Item) → windows_in (book_of v items) ≡ own_windows v items
windows_are v items =
    windows_of v items 0 (known_keys items)
    ∙ (sum_in_order (λ c. kept_window (standing_of v c items)) 0 (keys items)
    ∙ windows_kept v items 0 (keys items))

keys_of : (v : Version) (items : List Item) (cs : List ChannelKey) → map (λ entry. entry.key) (map (entry_of v items) cs) ≡ cs
keys_of v items [] = refl
keys_of v items (c ∷ cs) = ap (λ ds. c ∷ ds) (keys_of v items cs)

own_of : (v : Version) (items : List Item) (cs : List ChannelKey) → length (filter (λ entry. entry.key.own) (map (entry_of v items) cs)) ≡ length (filter (λ c. c.own) cs)
own_of v items [] = refl
own_of v items (c ∷ cs) = elim (cases_Bool c.own) [
  | inl f ↦ rw f (omega (arith, own_of v items cs))
  | inr f ↦ rw f (own_of v items cs)
]

-- own offers are the known channels that are own ones
own_keys : (v : Version) (items : List Item) → Allowed v items → length (filter (λ c. c.own) (keys items)) ≡ own_offers items
own_keys v [] ok = refl
own_keys v (DidOffer key name size ∷ items) ok = rw (ap (λ k. k.own) ok.1) (omega (arith, own_keys v items ok.2))
own_keys v (Got place key (Offer name size) ∷ items) ok = rw ((heard_first v key name size items ok.0.unrefused).0) (own_keys v items ok.2)
own_keys v (item ∷ items) ok = own_keys v items (allowed_tail v item items ok)

pub own_count_is : (v : Version) (items : List Item) → Allowed v items → own_count (book_of v items) ≡ own_offers items
own_count_is v items ok = own_of v items (known_keys items) ∙ (count_in_order (λ c. c.own) (keys items) ∙ own_keys v items ok)

pub drawn_is : (v : Version) (items : List Item) → Allowed v items → next_key items ≡ drawn_key (book_of v items)
drawn_is v items ok = λ i. record { id = own_id (party_of items) (sym (own_count_is v items ok) i + 1); own = true }

if_or_is : (b x y : Bool) → ((b || x) || y) ≡ (if b then true else (x || y))
if_or_is true x y = refl
if_or_is false x y = refl

or_if_is : (b x y : Bool) → (x || (if b then true else y)) ≡ (if b then true else (x || y))
or_if_is true true y = refl
or_if_is true false y = refl
or_if_is false x y = refl

or_if : (b : Bool) → (b || false) ≡ (if b then true else false)
or_if true = refl
or_if false = refl

any_last : (f : ChannelKey → Bool) (cs : List ChannelKey) (c : ChannelKey) → list_any f (cs ++ c ∷ []) ≡ (if f c then true else list_any f cs)
any_last f [] c = or_if (f c)
any_last f (d ∷ ds) c = ap (λ b. f d || b) (any_last f ds c) ∙ or_if_is (f c) (f d) (list_any f ds)

-- what was offered is known or rejected
rejected_any : (c : ChannelKey) (items : List Item) → list_any (λ key. same_key key c) (rejected_keys items) ≡ is_rejected c items
rejected_any c [] = refl
rejected_any c (Rejected place key body ∷ items) =
    any_last (λ k. same_key k c) (rejected_keys items) key
    ∙ ((λ i. if same_key key c then true else rejected_any c items i))
rejected_any c (item ∷ items) = rejected_any c items

pub offered_is : (c : ChannelKey) (items : List Item) → (is_known c items || is_rejected c items) ≡ is_offered c items
offered_is c [] = refl
offered_is c (DidOffer key name size ∷ items) = if_or_is (same_key c key) (is_known c items) (is_rejected c items) ∙ (λ i. if turned c key i then true else offered_is c items i)
offered_is c (Got place key (Offer name size) ∷ items) = if_or_is (same_key c key) (is_known c items) (is_rejected c items) ∙ (λ i. if turned c key i then true else offered_is c items i)
offered_is c (Rejected place key body ∷ items) = or_if_is (same_key key c) (is_known c items) (is_rejected c items) ∙ (λ i. if same_key key c then true else offered_is c items i)
offered_is c (item ∷ items) = offered_is c items

is_found_if : (b : Bool) (s : Standing) → is_found (if b then Some s else None) ≡ b
is_found_if true s = refl
is_found_if false s = refl

pub has_offer_is : (v : Version) (c : ChannelKey) (items : List Item) → has_offer c (book_of v items) ≡ is_offered c items
has_offer_is v c items = (λ i. is_found (found_is v c items i) || rejected_any c items i) ∙ (ap (λ b. b || is_rejected c items) (is_found_if (is_known c items) (standing_of v c items)) ∙ offered_is c items)

pub offer_by_book : (v : Version) (name : List ℕ) (size : ℕ) (items : List Item) → Allowed v items → offer_refusal v name size items ≡ offer_test name size (book_of v items)
offer_by_book v name size items ok = rw (kept_count_is v items, windows_are v items, own_count_is v items ok) refl

pub room_by_book : (v : Version) (body : FrameBody) (items : List Item) → not (lacks_room v body items) ≡ has_room body (book_of v items)
room_by_book v body items = ap (λ n. not (is_offer body && nat_le most_channels n)) (sym (kept_count_is v items))

pub known_by_book : (v : Version) (items : List Item) → known_keys items ≡ known_in (book_of v items)
known_by_book v items = sym (keys_of v items (known_keys items))

pub view_by_book : (v : Version) (c : ChannelKey) (items : List Item) → view_of v c items ≡ view_on (kept_in (found c (book_of v items)))
view_by_book v c items = view_by_state v c items ∙ ap view_on (sym (kept_found v c items))

tally_if : (known left : Bool) (now : ChannelState) → (if known then Some (tally_in now) else None) ≡ tally_found (if known then Some (if known && left then Kept now else Gone (tally_in now)) else None)
tally_if true true now = refl
tally_if true false now = refl
tally_if false left now = refl

pub tally_by_book : (v : Version) (c : ChannelKey) (items : List Item) → tally_of v c items ≡ tally_found (found c (book_of v items))
tally_by_book v c items = tally_if (is_known c items) (not (is_closed v c items) || has_bytes (unread v c items)) (channel_at v c items) ∙ ap tally_found (sym (found_is v c items))

-- a channel that wasn't offered wasn't rejected
pub unoffered_unrejected : (c : ChannelKey) (items : List Item) → is_offered c items ≡ false → is_rejected c items ≡ false
unoffered_unrejected c items e = (or_parts (is_known c items) (is_rejected c items) (offered_is c items ∙ e)).1

older_known : (c key : ChannelKey) (items : List Item) → same_key c key ≡ false → (same_key c key || is_known c items) ≡ true → is_known c items ≡ true
older_known c key items differ e = sym (ap (λ b. b || is_known c items) differ) ∙ e

-- nor was a known one
pub known_unrejected : (v : Version) (c : ChannelKey) (items : List Item) → Allowed v items → is_known c items ≡ true → is_rejected c items ≡ false
known_unrejected v c [] ok e = refl
known_unrejected v c (DidOffer key name size ∷ items) ok e = elim (cases_Bool (same_key c key)) [
  | inl same ↦ unoffered_unrejected c items (subst (λ k. is_offered k items ≡ false) (sym (same_key_true c key same)) (offered_first v key name size items ok).1)
  | inr differ ↦ known_unrejected v c items ok.2 (older_known c key items differ e)
]
known_unrejected v c (Got place key (Offer name size) ∷ items) ok e = elim (cases_Bool (same_key c key)) [
  | inl same ↦ unoffered_unrejected c items (subst (λ k. is_offered k items ≡ false) (sym (same_key_true c key same)) (heard_first v key name size items ok.0.unrefused).1)
  | inr differ ↦ known_unrejected v c items ok.2 (older_known c key items differ e)
]
known_unrejected v c (Rejected place key body ∷ items) ok e = elim (cases_Bool (same_key key c)) [
  | inl same ↦ clash (is_offered c items) (known_offered c items e) (subst (λ k. is_offered k items ≡ false) (same_key_true key c same) (rejected_first v key body items ok.0.unrefused ok.1).1)
  | inr differ ↦ ap (λ b. if b then true else is_rejected c items) differ ∙ known_unrejected v c items ok.2 e
]
known_unrejected v c (item ∷ items) ok e = known_unrejected v c items (allowed_tail v item items ok) e

-- a channel that isn't kept any more is closed, and nothing of it is unread
pub record IsGone (v : Version) (c : ChannelKey) (items : List Item) : Type 0 where
  pub sent : termination_emitted v c items ≡ true
  pub peer : is_terminated_by_peer c items ≡ true
  pub read : unread v c items ≡ []

no_bytes : (bytes : List ℕ) → has_bytes bytes ≡ false → bytes ≡ []
no_bytes [] e = refl
no_bytes (byte ∷ bytes) e = absurd (true≢false e)

pub gone_is : (v : Version) (c : ChannelKey) (items : List Item) → is_known c items ≡ true → is_kept v c items ≡ false → IsGone v c items
gone_is v c items known e =
    let left : (not (is_closed v c items) || has_bytes (unread v c items)) ≡ false = sym (ap (λ b. b && (not (is_closed v c items) || has_bytes (unread v c items))) known) ∙ e in
    let parts = or_parts (not (is_closed v c items)) (has_bytes (unread v c items)) left in
    let closed = and_parts (termination_emitted v c items) (is_terminated_by_peer c items) (not-false (is_closed v c items) parts.0) in
    record { sent = closed.0; peer = closed.1; read = no_bytes (unread v c items) parts.1 }

pub or_last : (x y : Bool) → x ≡ false → (x || y) ≡ true → y ≡ true
or_last true y e f = absurd (true≢false e)
or_last false y e f = f

test_sent : (v : Version) (c : ChannelKey) (body : FrameBody) (items : List Item) → termination_emitted v c items ≡ true → frame_test body (channel_at v c items) ≡ None
test_sent v c body items e = rw e refl

-- a frame on a channel that was offered
test_found : (v : Version) (c : ChannelKey) (body : FrameBody) (items : List Item) → is_offered c items ≡ true → frame_test body (channel_at v c items) ≡ frame_on_found body (found c (book_of v items))
test_found v c body items offered = elim (cases_Bool (is_known c items)) [
  | inl known ↦ elim (cases_Bool (is_kept v c items)) [
    | inl kept ↦ sym (ap (frame_on_found body) (found_is v c items ∙ (λ i. if known i then Some (if kept i then Kept (channel_at v c items) else Gone (tally_in (channel_at v c items))) else None)))
    | inr gone ↦ test_sent v c body items (gone_is v c items known gone).sent ∙ sym (ap (frame_on_found body) (found_is v c items ∙ (λ i. if known i then Some (if gone i then Kept (channel_at v c items) else Gone (tally_in (channel_at v c items))) else None)))
  ]
  | inr unknown ↦ test_sent v c body items (rejected_terminated v c items (or_last (is_known c items) (is_rejected c items) unknown (offered_is c items ∙ offered)))
      ∙ sym (ap (frame_on_found body) (found_is v c items ∙ (λ i. if unknown i then Some (standing_of v c items) else None)))
]

later_by_book : (v : Version) (c : ChannelKey) (body : FrameBody) (items : List Item) → later_refusal v c body items ≡ (if not (has_offer c (book_of v items)) then Some reason.NoChannel else frame_on_found body (found c (book_of v items)))
later_by_book v c body items = elim (cases_Bool (is_offered c items)) [
  | inl e ↦ frame_by_state v c body items e ∙ (test_found v c body items e ∙ sym (ap (λ b. if not b then Some reason.NoChannel else frame_on_found body (found c (book_of v items))) (has_offer_is v c items ∙ e)))
  | inr e ↦ ap (λ b. if not b then Some reason.NoChannel else if termination_emitted v c items then None else heeded_refusal v c body items) e ∙ sym (ap (λ b. if not b then Some reason.NoChannel else frame_on_found body (found c (book_of v items))) (has_offer_is v c items ∙ e))
]

pub frame_by_book : (v : Version) (c : ChannelKey) (body : FrameBody) (items : List Item) → frame_refusal v c body items ≡ frame_in c body (book_of v items)
frame_by_book v c (Offer name size) items = ap (λ b. if c.own then Some reason.WrongSide else if b then Some reason.IdInUse else None) (sym (has_offer_is v c items))
frame_by_book v c (OfferAccepted size) items = later_by_book v c (OfferAccepted size) items
frame_by_book v c (Content bytes) items = later_by_book v c (Content bytes) items
frame_by_book v c ContentWritingCompleted items = later_by_book v c ContentWritingCompleted items
frame_by_book v c ChannelTerminated items = later_by_book v c ChannelTerminated items
frame_by_book v c (ContentProcessed count) items = later_by_book v c (ContentProcessed count) items

pub accept_by_book : (v : Version) (c : ChannelKey) (size : ℕ) (items : List Item) → accept_refusal v c size items ≡ unless_ended (ended items) (on_kept (kept_in (found c (book_of v items))) (accept_test (windows_in (book_of v items)) size))
accept_by_book v c size items = accept_by_state v c size items ∙ (λ i. unless_ended (ended items) (on_kept (sym (kept_found v c items) i) (accept_test (sym (windows_are v items) i) size)))

pub write_by_book : (v : Version) (c : ChannelKey) (bytes : List ℕ) (items : List Item) → write_refusal v c bytes items ≡ unless_ended (ended items) (on_kept (kept_in (found c (book_of v items))) (write_test bytes))
write_by_book v c bytes items = write_by_state v c bytes items ∙ ap (λ s. unless_ended (ended items) (on_kept s (write_test bytes))) (sym (kept_found v c items))

pub read_by_book : (v : Version) (c : ChannelKey) (items : List Item) → read_refusal v c items ≡ on_kept (kept_in (found c (book_of v items))) read_test
read_by_book v c items = read_by_state v c items ∙ ap (λ s. on_kept s read_test) (sym (kept_found v c items))

pub complete_by_book : (v : Version) (c : ChannelKey) (items : List Item) → complete_refusal v c items ≡ unless_ended (ended items) (on_kept (kept_in (found c (book_of v items))) writing_test)
complete_by_book v c items = complete_by_state v c items ∙ ap (λ s. unless_ended (ended items) (on_kept s writing_test)) (sym (kept_found v c items))

pub terminate_by_book : (v : Version) (c : ChannelKey) (items : List Item) → terminate_refusal v c items ≡ unless_ended (ended items) (on_kept (kept_in (found c (book_of v items))) open_test)
terminate_by_book v c items = terminate_by_state v c items ∙ ap (λ s. unless_ended (ended items) (on_kept s open_test)) (sym (kept_found v c items))
