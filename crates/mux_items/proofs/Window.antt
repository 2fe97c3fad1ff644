-- No more is unread than the own window.
use Rattle.std.specs.Prelude.{ℕ, ◌+◌, min, ◌≤◌, List, [], ◌∷◌, ◌++◌, length, drop, Bool, true, false, not, ◌&&◌, ◌||◌, if◌then◌else◌}
use Rattle.std.proofs.Common.{◌≡◌, ◌⊎◌, inl, inr, refl, sym, ◌∙◌, ap, subst, arith, length-append, length-drop}
use Rattle.std.proofs.lemmas.Bool.{cases_Bool, true≢false, false≢true, or_left, or_right}
use Rattle.wire_base.specs.declared.frame.Version.{Version}
use Rattle.mux_items.specs.declared.channel.ChannelKey.{ChannelKey}
use Rattle.mux_items.specs.Bodies.{OfferAccepted, Content, same_key, is_one}
use Rattle.mux_items.specs.Items.{Item, DidOffer, DidAccept, DidRead, Got}
use Rattle.mux_items.specs.Lists.{window, has_terminated, is_terminated_by_peer, is_rejected, is_finished, termination_emitted, taken, is_accepted, handed, is_dropped, unread_count, unread}
use Rattle.mux_items.specs.Applying.{Allowed}
use Rattle.mux_items.proofs.Keys.{same_key_true}
use Rattle.mux_items.proofs.Emission.{if_plus}
use Rattle.mux_items.proofs.Permits.{accept_permits, content_permits}
use Rattle.mux_items.proofs.Applied.{allowed_tail}
use Rattle.mux_items.proofs.Taking.{handed_bound, terminated_more, by_peer_more}

pub window_grows : (c : ChannelKey) (item : Item) (items : List Item) → window c items ≤ window c (item ∷ items)
window_grows c (DidOffer key name size) items = if_plus (same_key key c) size (window c items)
window_grows c (DidAccept key size) items = if_plus (same_key key c) size (window c items)
window_grows c item items = omega arith

pub handed_grows : (v : Version) (c : ChannelKey) (item : Item) (items : List Item) → handed v c items ≤ handed v c (item ∷ items)
handed_grows v c (DidRead key max) items = if_plus (same_key key c) (min max (unread_count (is_dropped v c items) (length (taken v c items)) (handed v c items))) (handed v c items)
handed_grows v c item items = omega arith

pub length-unread : (v : Version) (c : ChannelKey) (items : List Item) → length (unread v c items) ≡ unread_count (is_dropped v c items) (length (taken v c items)) (handed v c items)
length-unread v c items = counted (is_dropped v c items) (handed v c items) (taken v c items)
  where
    counted : (dropped : Bool) (n : ℕ) (bytes : List ℕ) → length (if dropped then [] else drop n bytes) ≡ unread_count dropped (length bytes) n
    counted true n bytes = refl
    counted false n bytes = length-drop n bytes

by_peer_emitted : (v : Version) (c : ChannelKey) (items : List Item) → is_terminated_by_peer c items ≡ true → termination_emitted v c items ≡ true
by_peer_emitted v c items e =
    or_left (has_terminated c items || is_terminated_by_peer c items || is_rejected c items) (is_finished v c items)
    (or_left (has_terminated c items || is_terminated_by_peer c items) (is_rejected c items)
    (or_right (has_terminated c items) (is_terminated_by_peer c items) e))

pub unheeded_over : (same terminated accepted : Bool) → terminated ≡ true → (if same && not terminated then true else accepted) ≡ accepted
unheeded_over true true accepted e = refl
unheeded_over false true accepted e = refl
unheeded_over same false accepted e = absurd (false≢true e)

-- a channel isn't accepted after the own termination
pub accepted_quiet : (v : Version) (c : ChannelKey) (item : Item) (items : List Item) → termination_emitted v c items ≡ true → Allowed v (item ∷ items) → is_accepted v c (item ∷ items) ≡ is_accepted v c items
accepted_quiet v c (DidAccept key size) items e ok = elim (cases_Bool (same_key key c)) [
  | inl same ↦ absurd (true≢false (sym e ∙ subst (λ k. termination_emitted v k items ≡ false) (same_key_true key c same) (accept_permits v key size items ok.0).heard))
  | inr differ ↦ rw differ refl
]
accepted_quiet v c (Got place key (OfferAccepted size)) items e ok = unheeded_over (same_key key c) (termination_emitted v c items) (is_accepted v c items) e
accepted_quiet v c item items e ok = refl

dropped_from : (h p a h' p' a' : Bool) → (h ≡ true → h' ≡ true) → (p ≡ true → p' ≡ true) → (p ≡ true → a' ≡ a) → (h || (p && not a)) ≡ true → (h' || (p' && not a')) ≡ true
dropped_from true p a h' p' a' f g k e = or_left h' (p' && not a') (f refl)
dropped_from false false a h' p' a' f g k e = absurd (false≢true e)
dropped_from false true a h' p' a' f g k e = rw (g refl, k refl) (or_right h' (not a) e)

pub dropped_more : (v : Version) (c : ChannelKey) (item : Item) (items : List Item) → Allowed v (item ∷ items) → is_dropped v c items ≡ true → is_dropped v c (item ∷ items) ≡ true
dropped_more v c item items ok e =
    dropped_from (has_terminated c items) (is_terminated_by_peer c items) (is_accepted v c items) (has_terminated c (item ∷ items)) (is_terminated_by_peer c (item ∷ items)) (is_accepted v c (item ∷ items))
    (terminated_more c item items) (by_peer_more c item items) (λ p. accepted_quiet v c item items (by_peer_emitted v c items p) ok) e

unread_count_less : (d d' : Bool) (t m m' : ℕ) → (d ≡ true → d' ≡ true) → m ≤ m' → unread_count d' t m' ≤ unread_count d t m
unread_count_less d true t m m' f le = omega arith
unread_count_less true false t m m' f le = absurd (false≢true (f refl))
unread_count_less false false t m m' f le = omega arith

unread_count_more : (d d' : Bool) (t m n : ℕ) → (d ≡ true → d' ≡ true) → m ≤ t → unread_count d' (t + n) m ≤ unread_count d t m + n
unread_count_more d true t m n f le = omega arith
unread_count_more true false t m n f le = absurd (false≢true (f refl))
unread_count_more false false t m n f le = omega arith

-- an item that takes nothing
same_taken : (v : Version) (c : ChannelKey) (item : Item) (items : List Item) → Allowed v (item ∷ items) → taken v c (item ∷ items) ≡ taken v c items → length (unread v c items) ≤ window c items → length (unread v c (item ∷ items)) ≤ window c (item ∷ items)
same_taken v c item items ok same le =
    omega (
      arith,
      length-unread v c items,
      length-unread v c (item ∷ items),
      ap (λ bs. unread_count (is_dropped v c (item ∷ items)) (length bs) (handed v c (item ∷ items))) same,
      unread_count_less (is_dropped v c items) (is_dropped v c (item ∷ items)) (length (taken v c items)) (handed v c items) (handed v c (item ∷ items)) (dropped_more v c item items ok) (handed_grows v c item items),
      window_grows c item items,
    )

taken_content : (v : Version) (place : ℕ) (c : ChannelKey) (bytes : List ℕ) (items : List Item) → is_one v ≡ false → Allowed v (Got place c (Content bytes) ∷ items) → termination_emitted v c items ≡ false → taken v c (Got place c (Content bytes) ∷ items) ≡ taken v c items ++ bytes
    → length (unread v c (Got place c (Content bytes) ∷ items)) ≤ window c items
taken_content v place c bytes items two ok heard grown =
    let item = Got place c (Content bytes) in
    omega (
      arith,
      length-unread v c items,
      length-unread v c (item ∷ items),
      ap (λ bs. unread_count (is_dropped v c (item ∷ items)) (length bs) (handed v c items)) grown,
      ap (λ n. unread_count (is_dropped v c (item ∷ items)) n (handed v c items)) (length-append (taken v c items) bytes),
      unread_count_more (is_dropped v c items) (is_dropped v c (item ∷ items)) (length (taken v c items)) (handed v c items) (length bytes) (dropped_more v c item items ok) (handed_bound v c items),
      (content_permits v c bytes items two ok.0.unrefused heard).1,
    )

taken_by : (same terminated : Bool) (xs ys : List ℕ) → ((same ≡ true) × (terminated ≡ false) × ((if same && not terminated then xs ++ ys else xs) ≡ xs ++ ys)) ⊎ ((if same && not terminated then xs ++ ys else xs) ≡ xs)
taken_by true false xs ys = inl (refl, refl, refl)
taken_by true true xs ys = inr refl
taken_by false terminated xs ys = inr refl

content_on_key : (v : Version) (place : ℕ) (c key : ChannelKey) (bytes : List ℕ) (items : List Item) → is_one v ≡ false → Allowed v (Got place key (Content bytes) ∷ items) → key ≡ c → termination_emitted v c items ≡ false → taken v c (Got place key (Content bytes) ∷ items) ≡ taken v c items ++ bytes
    → length (unread v c (Got place key (Content bytes) ∷ items)) ≤ window c items
content_on_key v place c key bytes items two ok same =
    subst (λ k. Allowed v (Got place k (Content bytes) ∷ items) → termination_emitted v c items ≡ false → taken v c (Got place k (Content bytes) ∷ items) ≡ taken v c items ++ bytes → length (unread v c (Got place k (Content bytes) ∷ items)) ≤ window c items) (sym same)
    (λ now heard grown. taken_content v place c bytes items two now heard grown) ok

pub unread_window : (v : Version) (c : ChannelKey) (items : List Item) → is_one v ≡ false → Allowed v items → length (unread v c items) ≤ window c items
unread_window v c [] two ok = omega arith
unread_window v c (Got place key (Content bytes) ∷ items) two ok = elim (taken_by (same_key key c) (termination_emitted v c items) (taken v c items) bytes) [
  | inl t ↦ content_on_key v place c key bytes items two ok (same_key_true key c t.0) t.1 t.2
  | inr t ↦ same_taken v c (Got place key (Content bytes)) items ok t (unread_window v c items two ok.2)
]
unread_window v c (item ∷ items) two ok = same_taken v c item items ok refl (unread_window v c items two (allowed_tail v item items ok))
