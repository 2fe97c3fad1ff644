-- The next of the values that offer objects.
use Rattle.std.specs.Prelude.{◌||◌, Bool, true, false, bytes_eq, is_some, if◌then◌else◌, zero, suc, Option}
use Rattle.std.specs.List.{list_any}
use Rattle.std.proofs.Common.{◌≡◌, ℕ, ◌+◌, ◌<◌, List, [], ◌∷◌, ◌-◌, length, take, drop, get_or, refl, sym, ◌∙◌, ap, subst, arith, add-one, Some, None}
use Rattle.std.proofs.lemmas.List.{take_rest}
use Rattle.wire_base.specs.Find.{last_of}
use Rattle.wire_base.specs.Tree.{Tree}
use Rattle.wire_base.specs.declared.text.Id.{Id}
use Rattle.wire_base.specs.Options.{or_else}
use Rattle.rpc_items.specs.Objects.{last_values, offered_in}
use Rattle.marshalled_handles.specs.declared.peer_handle.PeerHandle.{PeerHandle}
use Rattle.marshalled_handles.specs.Holder.{Keeps, adopting_all, adopting_member, adopting_offer}
use Rattle.marshalled_handles.proofs.Finding.{offer_keeps}

-- a value in a list

value_next : (request : Option Id) (values : List Tree) (i : ℕ) (value : Tree) (held : List PeerHandle) → i < length values → value ≡ get_or values i value
    → adopting_all request (drop (suc i) values) (adopting_offer request (offered_in value) held) ≡ adopting_all request (drop i values) held
value_next request [] i value held l e = absurd (omega (arith, l))
value_next request (x ∷ xs) zero value held l e = ap (λ (v : Tree). adopting_all request xs (adopting_offer request (offered_in v) held)) e
value_next request (x ∷ xs) (suc i) value held l e = value_next request xs i value held (omega (arith, l)) e

pub value_on : (request : Option Id) (values : List Tree) (i : ℕ) (value : Tree) (held new : List PeerHandle) → i < length values → value ≡ get_or values i value → new ≡ adopting_offer request (offered_in value) held
    → adopting_all request (drop (i + 1) values) new ≡ adopting_all request (drop i values) held
value_on request values i value held new l e made = ap (adopting_all request (drop (i + 1) values)) made ∙ rw add-one (value_next request values i value held l e)

-- a key that is that of a member

or_else_some : (a : Option Tree) (b : Bool) (t : Tree) (c : Bool) → is_some a ≡ c → is_some (or_else a (if b then Some t else None)) ≡ (b || c)
or_else_some (Some x) true t c e = refl
or_else_some (Some x) false t c e = e
or_else_some None true t c e = refl
or_else_some None false t c e = e

named_by : (key : List ℕ) (members : List (List ℕ × Tree)) → is_some (last_of key members) ≡ list_any (λ member. bytes_eq member.0 key) members
named_by key [] = refl
named_by key (p ∷ members) = or_else_some (last_of key members) (bytes_eq p.0 key) p.1 (list_any (λ member. bytes_eq member.0 key) members) (named_by key members)

-- a member, where its key stands again behind it, and where it doesn't

again : (request : Option Id) (x : List ℕ × Tree) (xs : List (List ℕ × Tree)) (held : List PeerHandle) → list_any (λ member. bytes_eq member.0 x.0) xs ≡ true → adopting_all request (last_values xs) held ≡ adopting_all request (last_values (x ∷ xs)) held
again request x xs held e = sym (ap (λ (b : Bool). adopting_all request (if b then last_values xs else x.1 ∷ last_values xs) held) (named_by x.0 xs ∙ e))

last : (request : Option Id) (x : List ℕ × Tree) (xs : List (List ℕ × Tree)) (held : List PeerHandle) → list_any (λ member. bytes_eq member.0 x.0) xs ≡ false
    → adopting_all request (last_values xs) (adopting_offer request (offered_in x.1) held) ≡ adopting_all request (last_values (x ∷ xs)) held
last request x xs held e = sym (ap (λ (b : Bool). adopting_all request (if b then last_values xs else x.1 ∷ last_values xs) held) (named_by x.0 xs ∙ e))

again_next : (request : Option Id) (members : List (List ℕ × Tree)) (i : ℕ) (p : List ℕ × Tree) (held : List PeerHandle) → i < length members → p ≡ get_or members i p → list_any (λ member. bytes_eq member.0 p.0) (drop (suc i) members) ≡ true
    → adopting_all request (last_values (drop (suc i) members)) held ≡ adopting_all request (last_values (drop i members)) held
again_next request [] i p held l e a = absurd (omega (arith, l))
again_next request (x ∷ xs) zero p held l e a = again request x xs held (ap (λ (q : List ℕ × Tree). list_any (λ member. bytes_eq member.0 q.0) xs) (sym e) ∙ a)
again_next request (x ∷ xs) (suc i) p held l e a = again_next request xs i p held (omega (arith, l)) e a

last_next : (request : Option Id) (members : List (List ℕ × Tree)) (i : ℕ) (p : List ℕ × Tree) (held : List PeerHandle) → i < length members → p ≡ get_or members i p → list_any (λ member. bytes_eq member.0 p.0) (drop (suc i) members) ≡ false
    → adopting_all request (last_values (drop (suc i) members)) (adopting_offer request (offered_in p.1) held) ≡ adopting_all request (last_values (drop i members)) held
last_next request [] i p held l e a = absurd (omega (arith, l))
last_next request (x ∷ xs) zero p held l e a =
    ap (λ (q : List ℕ × Tree). adopting_all request (last_values xs) (adopting_offer request (offered_in q.1) held)) e
    ∙ last request x xs held (ap (λ (q : List ℕ × Tree). list_any (λ member. bytes_eq member.0 q.0) xs) (sym e) ∙ a)
last_next request (x ∷ xs) (suc i) p held l e a = last_next request xs i p held (omega (arith, l)) e a

pub again_more : (request : Option Id) (members : List (List ℕ × Tree)) (i : ℕ) (p : List ℕ × Tree) (held : List PeerHandle) → i < length members → p ≡ get_or members i p → list_any (λ member. bytes_eq member.0 p.0) (drop (i + 1) members) ≡ true
    → adopting_all request (last_values (drop (i + 1) members)) held ≡ adopting_all request (last_values (drop i members)) held
again_more request members i p held l e a =
    ap (λ (k : ℕ). adopting_all request (last_values (drop k members)) held) (let more : i + 1 ≡ suc i = omega arith in more)
    ∙ again_next request members i p held l e (ap (λ (k : ℕ). list_any (λ member. bytes_eq member.0 p.0) (drop k members)) (let more : suc i ≡ i + 1 = omega arith in more) ∙ a)

pub last_more : (request : Option Id) (members : List (List ℕ × Tree)) (i : ℕ) (p : List ℕ × Tree) (held : List PeerHandle) → i < length members → p ≡ get_or members i p → list_any (λ member. bytes_eq member.0 p.0) (drop (i + 1) members) ≡ false
    → adopting_all request (last_values (drop (i + 1) members)) (adopting_offer request (offered_in p.1) held) ≡ adopting_all request (last_values (drop i members)) held
last_more request members i p held l e a =
    ap (λ (k : ℕ). adopting_all request (last_values (drop k members)) (adopting_offer request (offered_in p.1) held)) (let more : i + 1 ≡ suc i = omega arith in more)
    ∙ last_next request members i p held l e (ap (λ (k : ℕ). list_any (λ member. bytes_eq member.0 p.0) (drop k members)) (let more : suc i ≡ i + 1 = omega arith in more) ∙ a)

-- after one more

pub member_on : (request : Option Id) (members : List (List ℕ × Tree)) (i : ℕ) (p : List ℕ × Tree) (held new : List PeerHandle) → i < length members → p ≡ get_or members i p → new ≡ adopting_member request p (take (length members - (i + 1)) (drop (i + 1) members)) held
    → adopting_all request (last_values (drop (i + 1) members)) new ≡ adopting_all request (last_values (drop i members)) held
member_on request members i p held new l e made = by (list_any (λ other. bytes_eq other.0 p.0) (drop (i + 1) members)) refl
  where
    now : new ≡ adopting_member request p (drop (i + 1) members) held
    now = made ∙ ap (λ (later : List (List ℕ × Tree)). adopting_member request p later held) (take_rest members (i + 1))

    by : (b : Bool) → list_any (λ other. bytes_eq other.0 p.0) (drop (i + 1) members) ≡ b → adopting_all request (last_values (drop (i + 1) members)) new ≡ adopting_all request (last_values (drop i members)) held
    by true a = ap (adopting_all request (last_values (drop (i + 1) members))) (now ∙ ap (λ (b : Bool). if b then held else adopting_offer request (offered_in p.1) held) a) ∙ again_more request members i p held l e a
    by false a = ap (adopting_all request (last_values (drop (i + 1) members))) (now ∙ ap (λ (b : Bool). if b then held else adopting_offer request (offered_in p.1) held) a) ∙ last_more request members i p held l e a

-- what was adopted stays

pub kept_value : (request : Option Id) (value : Tree) (old held new : List PeerHandle) → new ≡ adopting_offer request (offered_in value) held → Keeps old held → Keeps old new
kept_value request value old held new made k = subst (λ (hs : List PeerHandle). Keeps old hs) (sym made) (offer_keeps request (offered_in value) old held k)

member_keeps : (request : Option Id) (p : List ℕ × Tree) (b : Bool) (old held : List PeerHandle) → Keeps old held → Keeps old (if b then held else adopting_offer request (offered_in p.1) held)
member_keeps request p true old held k = k
member_keeps request p false old held k = offer_keeps request (offered_in p.1) old held k

pub kept_member : (request : Option Id) (p : List ℕ × Tree) (later : List (List ℕ × Tree)) (old held new : List PeerHandle) → new ≡ adopting_member request p later held → Keeps old held → Keeps old new
kept_member request p later old held new made k = subst (λ (hs : List PeerHandle). Keeps old hs) (sym made) (member_keeps request p (list_any (λ other. bytes_eq other.0 p.0) later) old held k)
