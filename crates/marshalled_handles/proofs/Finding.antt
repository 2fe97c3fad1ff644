-- A handle among those that were adopted.
use Rattle.std.specs.Prelude.{Bool, true, false, ◌==◌, nat_lt, is_some, option_map, if◌then◌else◌, Option}
use Rattle.std.proofs.Common.{◌≡◌, ℕ, ◌<◌, ◌≤◌, List, [], ◌∷◌, map, refl, sym, ◌∙◌, ap, inl, inr, arith, Some, None}
use Rattle.std.proofs.lemmas.Bool.{cases_lt, eqb-true, ltb-true, ltb-false}
use Rattle.wire_base.specs.Tree.{Tree}
use Rattle.wire_base.specs.declared.text.Id.{Id}
use Rattle.wire_base.specs.Options.{or_else}
use Rattle.wire_base.proofs.Places.{eq_apart}
use Rattle.rpc_items.specs.Objects.{Offered, offered_in}
use Rattle.rpc_items.specs.PeerHandles.{Adopted, adopted_by, adopted_in, adopted_until, is_until}
use Rattle.marshalled_handles.specs.declared.peer_handle.PeerHandle.{PeerHandle}
use Rattle.marshalled_handles.specs.Holder.{AreAbove, AreRising, Keeps, adopting, adopting_all, adopting_if, adopting_offer, ending, found, fresh, placed, released, responding}
use Rattle.marshalled_handles.proofs.Places.{option_same}

-- options, of which the first counts

pub first_none : {A : Type 0} (o : Option A) → or_else o None ≡ o
first_none (Some x) = refl
first_none None = refl

first_twice : {A : Type 0} (a b c : Option A) → or_else (or_else a b) c ≡ or_else a (or_else b c)
first_twice (Some x) b c = refl
first_twice None b c = refl

map_first : {A B : Type 0} (f : A → B) (a b : Option A) → option_map f (or_else a b) ≡ or_else (option_map f a) (option_map f b)
map_first f (Some x) b = refl
map_first f None b = refl

-- numbers that rise

pub above_more : (a b : ℕ) (held : List PeerHandle) → a ≤ b → AreAbove b held → AreAbove a held
above_more a b [] l p = tt
above_more a b (h ∷ held) l p = ((let first = p.0 in omega (arith, l, first)), above_more a b held l p.1)

pub above_absent : (n : ℕ) (held : List PeerHandle) → AreAbove n held → found n held ≡ None
above_absent n [] p = refl
above_absent n (h ∷ held) p = by (h.number == n) refl (above_absent n held p.1)
  where
    by : (b : Bool) → (h.number == n) ≡ b → found n held ≡ None → (if b then Some h else found n held) ≡ None
    by true e ih = absurd (let first = p.0 in omega (arith, eqb-true h.number n e, first))
    by false e ih = ih

-- one more

above_placed : (a : ℕ) (new : PeerHandle) (held : List PeerHandle) → a < new.number → AreAbove a held → AreAbove a (placed new held)
above_placed a new [] l p = (l, tt)
above_placed a new (h ∷ held) l p = by (nat_lt h.number new.number) (above_placed a new held l p.1)
  where
    by : (b : Bool) → AreAbove a (placed new held) → AreAbove a (if b then h ∷ placed new held else new ∷ (h ∷ held))
    by true ih = (p.0, ih)
    by false ih = (l, p)

pub placed_rises : (new : PeerHandle) (held : List PeerHandle) → found new.number held ≡ None → AreRising held → AreRising (placed new held)
placed_rises new [] e r = (tt, tt)
placed_rises new (h ∷ held) e r = by (nat_lt h.number new.number) refl (h.number == new.number) refl e (λ none. placed_rises new held none r.1)
  where
    by : (b : Bool) → nat_lt h.number new.number ≡ b → (c : Bool) → (h.number == new.number) ≡ c → (if c then Some h else found new.number held) ≡ None → (found new.number held ≡ None → AreRising (placed new held)) → AreRising (if b then h ∷ placed new held else new ∷ (h ∷ held))
    by b lt true same none ih = absurd (cc none)
    by true lt false apart none ih = (above_placed h.number new held (ltb-true h.number new.number lt) r.0, ih none)
    by false lt false apart none ih =
        let le = ltb-false h.number new.number lt in
        let less : new.number < h.number = elim (cases_lt new.number h.number) [ inl l ↦ l | inr l ↦ absurd (eq_apart h.number new.number apart (omega (arith, le, l))) ] in
        ((less, above_more new.number h.number held (omega (arith, less)) r.0), r)

found_over : (n : ℕ) (b : Bool) (h : PeerHandle) (held : List PeerHandle) → (h.number == n) ≡ b → found n (h ∷ held) ≡ (if b then Some h else found n held)
found_over n b h held e = ap (λ (c : Bool). if c then Some h else found n held) e

pub found_placed : (n : ℕ) (new : PeerHandle) (held : List PeerHandle) → found n (placed new held) ≡ (if new.number == n then Some new else found n held)
found_placed n new [] = refl
found_placed n new (h ∷ held) = by (nat_lt h.number new.number) refl (found_placed n new held)
  where
    by : (b : Bool) → nat_lt h.number new.number ≡ b → found n (placed new held) ≡ (if new.number == n then Some new else found n held)
        → found n (if b then h ∷ placed new held else new ∷ (h ∷ held)) ≡ (if new.number == n then Some new else found n (h ∷ held))
    by false lt ih = refl
    by true lt ih = within (h.number == n) (new.number == n) refl refl
      where
        within : (a c : Bool) → (h.number == n) ≡ a → (new.number == n) ≡ c → (if a then Some h else found n (placed new held)) ≡ (if c then Some new else (if a then Some h else found n held))
        within true true e f = absurd (let less = ltb-true h.number new.number lt in omega (arith, eqb-true h.number n e, eqb-true new.number n f, less))
        within true false e f = refl
        within false c e f = ih ∙ ap (λ (d : Bool). if d then Some new else found n held) f

-- a handle that is adopted

-- a handle as it was adopted
abbrev pub adopted_as : ℕ → Adopted → PeerHandle
adopted_as number adopted = fresh number adopted.until

pub found_adopting : (n number : ℕ) (until : Option Id) (held : List PeerHandle) → found n (adopting number until held) ≡ or_else (found n held) (if number == n then Some (fresh number until) else None)
found_adopting n number until held = by (found number held) refl (number == n) refl
  where
    by : (o : Option PeerHandle) → found number held ≡ o → (b : Bool) → (number == n) ≡ b → found n (if is_some o then held else placed (fresh number until) held) ≡ or_else (found n held) (if b then Some (fresh number until) else None)
    by (Some h) e true same = (let here : found n held ≡ Some h = ap (λ (k : ℕ). found k held) (sym (eqb-true number n same)) ∙ e in here ∙ sym (ap (λ (o : Option PeerHandle). or_else o (Some (fresh number until))) here))
    by (Some h) e false apart = sym (first_none (found n held))
    by None e true same =
        let none : found n held ≡ None = ap (λ (k : ℕ). found k held) (sym (eqb-true number n same)) ∙ e in
        found_placed n (fresh number until) held ∙ (ap (λ (b : Bool). if b then Some (fresh number until) else found n held) same ∙ sym (ap (λ (o : Option PeerHandle). or_else o (Some (fresh number until))) none))
    by None e false apart = found_placed n (fresh number until) held ∙ (ap (λ (b : Bool). if b then Some (fresh number until) else found n held) apart ∙ sym (first_none (found n held)))

pub adopting_rises : (number : ℕ) (until : Option Id) (held : List PeerHandle) → AreRising held → AreRising (adopting number until held)
adopting_rises number until held r = by (found number held) refl
  where
    by : (o : Option PeerHandle) → found number held ≡ o → AreRising (if is_some o then held else placed (fresh number until) held)
    by (Some h) e = r
    by None e = placed_rises (fresh number until) held e r

pub if_as : (n number : ℕ) (until : Option Id) (b : Bool) → (number == n) ≡ b → (if b then Some (fresh number until) else None) ≡ option_map (adopted_as n) (if b then Some (record { until = until }) else None)
if_as n number until true e = ap (λ (k : ℕ). Some (fresh k until)) (eqb-true number n e)
if_as n number until false e = refl

found_adopting_as : (n number : ℕ) (until : Option Id) (held : List PeerHandle) → found n (adopting number until held) ≡ or_else (found n held) (option_map (adopted_as n) (if number == n then Some (record { until = until }) else None))
found_adopting_as n number until held = found_adopting n number until held ∙ ap (or_else (found n held)) (if_as n number until (number == n) refl)

if_same : {A : Type 0} (b : Bool) (x : A) → (if b then x else x) ≡ x
if_same true x = refl
if_same false x = refl

found_adopting_if : (n number : ℕ) (a : Option Adopted) (held : List PeerHandle) → found n (adopting_if number a held) ≡ or_else (found n held) (option_map (adopted_as n) (if number == n then a else None))
found_adopting_if n number (Some a) held = found_adopting_as n number a.until held
found_adopting_if n number None held = sym (ap (λ (o : Option Adopted). or_else (found n held) (option_map (adopted_as n) o)) (if_same (number == n) None) ∙ first_none (found n held))

found_offer : (n : ℕ) (request : Option Id) (o : Option Offered) (held : List PeerHandle) → found n (adopting_offer request o held) ≡ or_else (found n held) (option_map (adopted_as n) (adopted_by n request o))
found_offer n request (Some offered) held = found_adopting_if n offered.handle (adopted_until request offered.lifetime) held
found_offer n request None held = sym (first_none (found n held))

pub found_all : (n : ℕ) (request : Option Id) (values : List Tree) (held : List PeerHandle) → found n (adopting_all request values held) ≡ or_else (found n held) (option_map (adopted_as n) (adopted_in n request values))
found_all n request [] held = sym (first_none (found n held))
found_all n request (value ∷ values) held =
    let one = adopted_by n request (offered_in value) in
    let others = adopted_in n request values in
    found_all n request values (adopting_offer request (offered_in value) held)
    ∙ (ap (λ (o : Option PeerHandle). or_else o (option_map (adopted_as n) others)) (found_offer n request (offered_in value) held)
    ∙ (first_twice (found n held) (option_map (adopted_as n) one) (option_map (adopted_as n) others)
    ∙ sym (ap (or_else (found n held)) (map_first (adopted_as n) one others))))

if_rises : (number : ℕ) (a : Option Adopted) (held : List PeerHandle) → AreRising held → AreRising (adopting_if number a held)
if_rises number (Some a) held r = adopting_rises number a.until held r
if_rises number None held r = r

offer_rises : (request : Option Id) (o : Option Offered) (held : List PeerHandle) → AreRising held → AreRising (adopting_offer request o held)
offer_rises request (Some offered) held r = if_rises offered.handle (adopted_until request offered.lifetime) held r
offer_rises request None held r = r

pub all_rise : (request : Option Id) (values : List Tree) (held : List PeerHandle) → AreRising held → AreRising (adopting_all request values held)
all_rise request [] held r = r
all_rise request (value ∷ values) held r = all_rise request values (adopting_offer request (offered_in value) held) (offer_rises request (offered_in value) held r)

-- what was adopted stays

first_some : {A : Type 0} (a b : Option A) (x : A) → a ≡ Some x → or_else a b ≡ Some x
first_some (Some y) b x e = e
first_some None b x e = absurd (cc e)

pub offer_keeps : (request : Option Id) (o : Option Offered) (old held : List PeerHandle) → Keeps old held → Keeps old (adopting_offer request o held)
offer_keeps request o old held k n h e = found_offer n request o held ∙ first_some (found n held) (option_map (adopted_as n) (adopted_by n request o)) h (k n h e)

-- handles that end

pub found_map : (change : PeerHandle → PeerHandle) (n : ℕ) (held : List PeerHandle) → ((h : PeerHandle) → (change h).number ≡ h.number) → found n (map change held) ≡ option_map change (found n held)
found_map change n [] keeps = refl
found_map change n (h ∷ held) keeps = ap (λ (m : ℕ). if m == n then Some (change h) else found n (map change held)) (keeps h) ∙ by (h.number == n) (found_map change n held keeps)
  where
    by : (b : Bool) → found n (map change held) ≡ option_map change (found n held) → (if b then Some (change h) else found n (map change held)) ≡ option_map change (if b then Some h else found n held)
    by true ih = refl
    by false ih = ih

above_map : (change : PeerHandle → PeerHandle) (n : ℕ) (held : List PeerHandle) → ((h : PeerHandle) → (change h).number ≡ h.number) → AreAbove n held → AreAbove n (map change held)
above_map change n [] keeps p = tt
above_map change n (h ∷ held) keeps p = ((let first = p.0 in omega (arith, first, keeps h)), above_map change n held keeps p.1)

pub map_rises : (change : PeerHandle → PeerHandle) (held : List PeerHandle) → ((h : PeerHandle) → (change h).number ≡ h.number) → AreRising held → AreRising (map change held)
map_rises change [] keeps r = tt
map_rises change (h ∷ held) keeps r = (above_more (change h).number h.number (map change held) (omega (arith, keeps h)) (above_map change h.number held keeps r.0), map_rises change held keeps r.1)

pub responding_keeps : (id : Id) (h : PeerHandle) → (responding id h).number ≡ h.number
responding_keeps id h = by (is_until h.until id)
  where
    by : (b : Bool) → (if b then ending h else h).number ≡ h.number
    by true = refl
    by false = refl

above_released : (a n : ℕ) (held : List PeerHandle) → AreAbove a held → AreAbove a (released n held)
above_released a n [] p = tt
above_released a n (h ∷ held) p = by (h.number == n) (above_released a n held p.1)
  where
    by : (b : Bool) → AreAbove a (released n held) → AreAbove a (if b then ending h ∷ held else h ∷ released n held)
    by true ih = (p.0, p.1)
    by false ih = (p.0, ih)

pub released_rises : (n : ℕ) (held : List PeerHandle) → AreRising held → AreRising (released n held)
released_rises n [] r = tt
released_rises n (h ∷ held) r = by (h.number == n) (released_rises n held r.1)
  where
    by : (b : Bool) → AreRising (released n held) → AreRising (if b then ending h ∷ held else h ∷ released n held)
    by true ih = (r.0, r.1)
    by false ih = (above_released h.number n held r.0, ih)

-- a handle that ends under a condition
abbrev pub ending_if : Bool → PeerHandle → PeerHandle
ending_if b h = if b then ending h else h

pub unended : (b : Bool) (o : Option PeerHandle) → b ≡ false → o ≡ option_map (ending_if b) o
unended b o e = option_same o ∙ sym (ap (λ (c : Bool). option_map (ending_if c) o) e)

pub found_released : (number n : ℕ) (held : List PeerHandle) → found n (released number held) ≡ option_map (ending_if (number == n)) (found n held)
found_released number n [] = refl
found_released number n (h ∷ held) = by (h.number == number) (h.number == n) (number == n) refl refl refl (found_released number n held)
  where
    by : (is this same : Bool) → (h.number == number) ≡ is → (h.number == n) ≡ this → (number == n) ≡ same → found n (released number held) ≡ option_map (ending_if (number == n)) (found n held)
        → found n (if is then ending h ∷ held else h ∷ released number held) ≡ option_map (ending_if same) (if this then Some h else found n held)
    by true true true e f g ih = found_over n true (ending h) held f
    by true true false e f g ih = absurd (eq_apart number n g (sym (eqb-true h.number number e) ∙ eqb-true h.number n f))
    by true false true e f g ih = absurd (eq_apart h.number n f (eqb-true h.number number e ∙ eqb-true number n g))
    by true false false e f g ih = found_over n false (ending h) held f ∙ option_same (found n held)
    by false true true e f g ih = absurd (eq_apart h.number number e (eqb-true h.number n f ∙ sym (eqb-true number n g)))
    by false true false e f g ih = found_over n true h (released number held) f
    by false false same e f g ih = found_over n false h (released number held) f ∙ (ih ∙ ap (λ (b : Bool). option_map (ending_if b) (found n held)) g)

-- what stays the same keeps all
pub same_keeps : (old new : List PeerHandle) → new ≡ old → Keeps old new
same_keeps old new e n h f = ap (λ (hs : List PeerHandle). found n hs) e ∙ f
