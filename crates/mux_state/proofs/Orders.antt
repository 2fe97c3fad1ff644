-- Channels in their order: the same ones as in the order of their offers, each once.
use Rattle.std.specs.Prelude.{ℕ, ◌+◌, List, [], ◌∷◌, length, filter, Bool, true, false, ◌||◌}
use Rattle.std.specs.List.{list_any, fold}
use Rattle.std.proofs.Common.{◌≡◌, inl, inr, refl, sym, ◌∙◌, ap, arith}
use Rattle.std.proofs.lemmas.Bool.{cases_Bool, true≢false, false≢true, or_parts, false_from_ne_true}
use Rattle.wire_base.specs.declared.frame.Version.{Version}
use Rattle.mux_items.specs.declared.channel.ChannelKey.{ChannelKey}
use Rattle.mux_items.specs.Bodies.{Offer, same_key}
use Rattle.mux_items.specs.Items.{Item, DidOffer, Got}
use Rattle.mux_items.specs.Lists.{is_offered}
use Rattle.mux_items.specs.Kept.{keys, is_known}
use Rattle.mux_items.specs.Applying.{Allowed}
use Rattle.mux_items.specs.Views.{precedes, insert_key, in_order, known_keys}
use Rattle.mux_items.proofs.Applied.{allowed_tail}
use Rattle.mux_items.proofs.Keys.{same_key_turned}
use Rattle.mux_items.proofs.Offered.{heard_first, known_offered, offered_first}
use Rattle.mux_state.specs.Book.{AreApart}

pub turned : (c key : ChannelKey) → same_key c key ≡ same_key key c
turned c key = elim (cases_Bool (same_key c key)) [
  | inl e ↦ e ∙ sym (same_key_turned c key e)
  | inr e ↦ elim (cases_Bool (same_key key c)) [
    | inl f ↦ absurd (true≢false (sym (same_key_turned key c f) ∙ e))
    | inr f ↦ e ∙ sym f
  ]
]

-- a channel that wasn't offered isn't known
pub unknown_before : (c : ChannelKey) (items : List Item) → is_offered c items ≡ false → is_known c items ≡ false
unknown_before c items e = false_from_ne_true (is_known c items) (λ known. false≢true (sym e ∙ known_offered c items known))

or_swap : (x y z : Bool) → (x || (y || z)) ≡ (y || (x || z))
or_swap true true z = refl
or_swap true false z = refl
or_swap false true z = refl
or_swap false false z = refl

any_insert : (f : ChannelKey → Bool) (c : ChannelKey) (cs : List ChannelKey) → list_any f (insert_key c cs) ≡ (f c || list_any f cs)
any_insert f c [] = refl
any_insert f c (d ∷ ds) = elim (cases_Bool (precedes d c)) [
  | inl e ↦ rw e (ap (λ b. f d || b) (any_insert f c ds) ∙ or_swap (f d) (f c) (list_any f ds))
  | inr e ↦ rw e refl
]

pub any_in_order : (f : ChannelKey → Bool) (cs : List ChannelKey) → list_any f (in_order cs) ≡ list_any f cs
any_in_order f [] = refl
any_in_order f (c ∷ cs) = any_insert f c (in_order cs) ∙ ap (λ b. f c || b) (any_in_order f cs)

count_one : (p : ChannelKey → Bool) (c : ChannelKey) (cs ds : List ChannelKey) → length (filter p cs) ≡ length (filter p ds) → length (filter p (c ∷ cs)) ≡ length (filter p (c ∷ ds))
count_one p c cs ds e = elim (cases_Bool (p c)) [
  | inl f ↦ rw f (omega (arith, e))
  | inr f ↦ rw f e
]

count_two : (p : ChannelKey → Bool) (c d : ChannelKey) (cs : List ChannelKey) → length (filter p (c ∷ d ∷ cs)) ≡ length (filter p (d ∷ c ∷ cs))
count_two p c d cs = elim (cases_Bool (p c)) [
  | inl e ↦ elim (cases_Bool (p d)) [
    | inl f ↦ rw (e, f) refl
    | inr f ↦ rw (e, f) refl
  ]
  | inr e ↦ elim (cases_Bool (p d)) [
    | inl f ↦ rw (e, f) refl
    | inr f ↦ rw (e, f) refl
  ]
]

count_insert : (p : ChannelKey → Bool) (c : ChannelKey) (cs : List ChannelKey) → length (filter p (insert_key c cs)) ≡ length (filter p (c ∷ cs))
count_insert p c [] = refl
count_insert p c (d ∷ ds) = elim (cases_Bool (precedes d c)) [
  | inl e ↦ rw e (count_one p d (insert_key c ds) (c ∷ ds) (count_insert p c ds) ∙ count_two p d c ds)
  | inr e ↦ rw e refl
]

pub count_in_order : (p : ChannelKey → Bool) (cs : List ChannelKey) → length (filter p (in_order cs)) ≡ length (filter p cs)
count_in_order p [] = refl
count_in_order p (c ∷ cs) = count_insert p c (in_order cs) ∙ count_one p c (in_order cs) cs (count_in_order p cs)

sum_insert : (f : ChannelKey → ℕ) (sum : ℕ) (c : ChannelKey) (cs : List ChannelKey) → fold (λ a k. a + f k) sum (insert_key c cs) ≡ fold (λ a k. a + f k) (sum + f c) cs
sum_insert f sum c [] = refl
sum_insert f sum c (d ∷ ds) = elim (cases_Bool (precedes d c)) [
  | inl e ↦ rw e (sum_insert f (sum + f d) c ds ∙ ap (λ n. fold (λ a k. a + f k) n ds) (omega arith))
  | inr e ↦ rw e refl
]

pub sum_in_order : (f : ChannelKey → ℕ) (sum : ℕ) (cs : List ChannelKey) → fold (λ a k. a + f k) sum (in_order cs) ≡ fold (λ a k. a + f k) sum cs
sum_in_order f sum [] = refl
sum_in_order f sum (c ∷ cs) = sum_insert f sum c (in_order cs) ∙ sum_in_order f (sum + f c) cs

apart_insert : (c : ChannelKey) (cs : List ChannelKey) → list_any (same_key c) cs ≡ false → AreApart cs → AreApart (insert_key c cs)
apart_insert c [] new apart = (refl, tt)
apart_insert c (d ∷ ds) new apart =
    let parts = or_parts (same_key c d) (list_any (same_key c) ds) new in
    elim (cases_Bool (precedes d c)) [
      | inl e ↦ rw e (any_insert (same_key d) c ds ∙ (λ i. (turned d c ∙ parts.0) i || apart.0 i), apart_insert c ds parts.1 apart.1)
      | inr e ↦ rw e (new, apart)
    ]

-- no channel is known twice
pub known_apart : (v : Version) (items : List Item) → Allowed v items → AreApart (known_keys items)
known_apart v [] ok = tt
known_apart v (DidOffer key name size ∷ items) ok = apart_insert key (known_keys items) (any_in_order (same_key key) (keys items) ∙ unknown_before key items (offered_first v key name size items ok).1) (known_apart v items ok.2)
known_apart v (Got place key (Offer name size) ∷ items) ok = apart_insert key (known_keys items) (any_in_order (same_key key) (keys items) ∙ unknown_before key items (heard_first v key name size items ok.0.unrefused).1) (known_apart v items ok.2)
known_apart v (item ∷ items) ok = known_apart v items (allowed_tail v item items ok)
