-- The sequence of a request among those that are followed.
use Rattle.std.specs.Prelude.{Bool, true, false, ◌==◌, map, filter, option_map, if◌then◌else◌}
use Rattle.std.proofs.Common.{◌≡◌, ◌≢◌, ℕ, List, [], ◌∷◌, ◌++◌, refl, sym, ◌∙◌, ap, inl, inr, Option, Some, None}
use Rattle.std.proofs.lemmas.Bool.{cases_Bool, eqb-true}
use Rattle.wire_base.specs.declared.text.Id.{Id}
use Rattle.wire_base.specs.Options.{or_else}
use Rattle.wire_base.proofs.Places.{eq_apart, eq_refl}
use Rattle.enumerables.specs.declared.followed.Followed.{Followed}
use Rattle.enumerables.specs.Consumer.{found, is_turn_of, follows, asking, rested}
use Rattle.enumerables.specs.Stands.{AreOnce}

-- numbers that aren't the same

pub eq_false : (n m : ℕ) → n ≢ m → (n == m) ≡ false
eq_false n m d = elim (cases_Bool (n == m)) [ inl e ↦ absurd (d (eqb-true n m e)) | inr e ↦ e ]

-- a sequence that becomes another one of the same request

pub found_map : (change : Followed → Followed) (n : ℕ) (followed : List Followed) → ((f : Followed) → (change f).request ≡ f.request) → found n (map change followed) ≡ option_map change (found n followed)
found_map change n [] keeps = refl
found_map change n (f ∷ followed) keeps = ap (λ (m : ℕ). if m == n then Some (change f) else found n (map change followed)) (keeps f) ∙ by (f.request == n) (found_map change n followed keeps)
  where
    by : (b : Bool) → found n (map change followed) ≡ option_map change (found n followed) → (if b then Some (change f) else found n (map change followed)) ≡ option_map change (if b then Some f else found n followed)
    by true ih = refl
    by false ih = ih

pub asking_keeps : (n number : ℕ) (f : Followed) → (asking n number f).request ≡ f.request
asking_keeps n number f = by (f.request == n)
  where
    by : (b : Bool) → (if b then record f { turn = Some number } else f).request ≡ f.request
    by true = refl
    by false = refl

pub rested_keeps : (number : ℕ) (f : Followed) → (rested number f).request ≡ f.request
rested_keeps number f = by (is_turn_of number f.turn)
  where
    by : (b : Bool) → (if b then record f { turn = None } else f).request ≡ f.request
    by true = refl
    by false = refl

pub once_map : (change : Followed → Followed) (followed : List Followed) → ((f : Followed) → (change f).request ≡ f.request) → AreOnce followed → AreOnce (map change followed)
once_map change [] keeps once = tt
once_map change (f ∷ followed) keeps once =
    (ap (λ (n : ℕ). found n (map change followed)) (keeps f) ∙ (found_map change f.request followed keeps ∙ ap (option_map change) once.0), once_map change followed keeps once.1)

-- sequences that are left out

pub found_filter_none : (test : Followed → Bool) (n : ℕ) (followed : List Followed) → found n followed ≡ None → found n (filter test followed) ≡ None
found_filter_none test n [] e = refl
found_filter_none test n (f ∷ followed) e = by (f.request == n) refl (test f) e (found_filter_none test n followed)
  where
    by : (same : Bool) → (f.request == n) ≡ same → (kept : Bool) → (if same then Some f else found n followed) ≡ None → (found n followed ≡ None → found n (filter test followed) ≡ None) → found n (if kept then f ∷ filter test followed else filter test followed) ≡ None
    by true same kept h ih = absurd (cc h)
    by false apart true h ih = ap (λ (c : Bool). if c then Some f else found n (filter test followed)) apart ∙ ih h
    by false apart false h ih = ih h

pub once_filter : (test : Followed → Bool) (followed : List Followed) → AreOnce followed → AreOnce (filter test followed)
once_filter test [] once = tt
once_filter test (f ∷ followed) once = by (test f) (once_filter test followed once.1)
  where
    by : (b : Bool) → AreOnce (filter test followed) → AreOnce (if b then f ∷ filter test followed else filter test followed)
    by true rest = (found_filter_none test f.request followed once.0, rest)
    by false rest = rest

-- a sequence where it passes a test

abbrev pub where_passes : (Followed → Bool) → Option Followed → Option Followed
where_passes test (Some f) = if test f then Some f else None
where_passes test None = None

pub found_filter : (test : Followed → Bool) (n : ℕ) (followed : List Followed) → AreOnce followed → found n (filter test followed) ≡ where_passes test (found n followed)
found_filter test n [] once = refl
found_filter test n (f ∷ followed) once = by (test f) (f.request == n) refl refl (found_filter test n followed once.1)
  where
    by : (kept same : Bool) → test f ≡ kept → (f.request == n) ≡ same → found n (filter test followed) ≡ where_passes test (found n followed) → found n (if kept then f ∷ filter test followed else filter test followed) ≡ where_passes test (if same then Some f else found n followed)
    by true true k s ih = ap (λ (c : Bool). if c then Some f else found n (filter test followed)) s ∙ sym (ap (λ (c : Bool). if c then Some f else None) k)
    by true false k s ih = ap (λ (c : Bool). if c then Some f else found n (filter test followed)) s ∙ ih
    by false true k s ih =
        found_filter_none test n followed (ap (λ (m : ℕ). found m followed) (sym (eqb-true f.request n s)) ∙ once.0)
        ∙ sym (ap (λ (c : Bool). if c then Some f else None) k)
    by false false k s ih = ih

-- one more

pub found_append : (n : ℕ) (followed more : List Followed) → found n (followed ++ more) ≡ or_else (found n followed) (found n more)
found_append n [] more = refl
found_append n (f ∷ followed) more = by (f.request == n) (found_append n followed more)
  where
    by : (b : Bool) → found n (followed ++ more) ≡ or_else (found n followed) (found n more) → (if b then Some f else found n (followed ++ more)) ≡ or_else (if b then Some f else found n followed) (found n more)
    by true ih = refl
    by false ih = ih

abbrev pub new_followed : ℕ → Id → Followed
new_followed number token = record { request = number; token = token; turn = None }

pub found_new : (number : ℕ) (token : Option Id) → found number (follows number token) ≡ option_map (new_followed number) token
found_new number (Some token) = ap (λ (b : Bool). if b then Some (new_followed number token) else None) (eq_refl number)
found_new number None = refl

pub found_other : (n number : ℕ) (token : Option Id) → n ≢ number → found n (follows number token) ≡ None
found_other n number (Some token) d = ap (λ (b : Bool). if b then Some (new_followed number token) else None) (eq_false number n (λ e. d (sym e)))
found_other n number None d = refl

found_none_apart : (number : ℕ) (f : Followed) (followed : List Followed) → found number (f ∷ followed) ≡ None → (f.request ≢ number) × (found number followed ≡ None)
found_none_apart number f followed e = by (f.request == number) refl e
  where
    by : (b : Bool) → (f.request == number) ≡ b → (if b then Some f else found number followed) ≡ None → (f.request ≢ number) × (found number followed ≡ None)
    by true same h = absurd (cc h)
    by false apart h = (eq_apart f.request number apart, h)

pub once_more : (number : ℕ) (token : Option Id) (followed : List Followed) → found number followed ≡ None → AreOnce followed → AreOnce (followed ++ follows number token)
once_more number (Some token) [] e once = (refl, tt)
once_more number None [] e once = tt
once_more number token (f ∷ followed) e once =
    let parts = found_none_apart number f followed e in (
      found_append f.request followed (follows number token) ∙ (ap (λ (o : Option Followed). or_else o (found f.request (follows number token))) once.0 ∙ found_other f.request number token parts.0),
      once_more number token followed parts.1 once.1,
    )
