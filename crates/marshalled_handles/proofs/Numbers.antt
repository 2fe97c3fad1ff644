-- The numbers that are held are those that were adopted.
use Rattle.std.specs.Prelude.{Bool, true, false, ◌||◌, ◌&&◌, ◌==◌, cond, nat_lt, filter, is_some, map, option_map, slice_get, slice_index, if◌then◌else◌, zero, suc, Option}
use Rattle.std.specs.List.{flat_map, list_any}
use Rattle.std.specs.List.Sorted.{IsStrictlyIncreasing}
use Rattle.std.proofs.Common.{◌≡◌, ℕ, ◌<◌, ◌≤◌, List, [], ◌∷◌, ◌++◌, length, refl, sym, ◌∙◌, ap, ap₂, subst, inl, inr, arith, add-one, Some, None}
use Rattle.std.proofs.lemmas.Bool.{cases_Bool, cases_lt, eqb-true, ltb-false, ltb-true}
use Rattle.std.proofs.lemmas.Grind.{flat_map-append}
use Rattle.std.proofs.lemmas.List.{append-nil}
use Rattle.std.proofs.lemmas.List.Folds.{list_any-append}
use Rattle.std.proofs.lemmas.Option.{slice_get-map}
use Rattle.wire_base.specs.Tree.{Tree}
use Rattle.wire_base.specs.declared.text.Id.{Id}
use Rattle.wire_base.specs.Options.{or_else}
use Rattle.wire_base.proofs.Places.{eq_apart, eq_refl}
use Rattle.rpc_items.specs.declared.messages.Message.{Message}
use Rattle.rpc_items.specs.declared.messages.Message.TheVariants.{Request, Notification}
use Rattle.rpc_items.specs.declared.messages.Message.TheVariants as message
use Rattle.rpc_items.specs.Items.{RpcItem, Did, Got, End}
use Rattle.rpc_items.specs.Meanings.{meaning}
use Rattle.rpc_items.specs.Objects.{Offered, offered_in, whole_arguments}
use Rattle.rpc_items.specs.Outcomes.{request_named}
use Rattle.rpc_items.specs.PeerHandles.{adopted, adopted_by, adopted_in, adopted_until, adoption, is_service}
use Rattle.rpc_items.specs.Saying.{all_got}
use Rattle.rpc_items.specs.Waiting.{asks}
use Rattle.marshalled_handles.specs.declared.peer_handle.PeerHandle.{PeerHandle}
use Rattle.marshalled_handles.specs.Holder.{AreAbove, AreRising, found, number_at}
use Rattle.marshalled_handles.specs.Numbers.{adopted_numbers, handle_of, handles_in, joined, rising}
use Rattle.marshalled_handles.specs.Stands.{HolderStands, held_after}
use Rattle.marshalled_handles.proofs.Owned.{or_true}

-- whether a number is one of these
abbrev pub among : ℕ → List ℕ → Bool
among number numbers = list_any (λ n. n == number) numbers

-- every number is above this one
abbrev pub AreOver : ℕ → List ℕ → Type 0
AreOver number [] = Unit {0}
AreOver number (n ∷ numbers) = (number < n) × AreOver number numbers

-- the numbers rise
abbrev pub Rise : List ℕ → Type 0
Rise [] = Unit {0}
Rise (n ∷ numbers) = AreOver n numbers × Rise numbers

-- one more number among rising ones

over_more : (j k : ℕ) (numbers : List ℕ) → j < k → AreOver k numbers → AreOver j numbers
over_more j k [] l a = tt
over_more j k (n ∷ numbers) l a = (let next = a.0 in omega (arith, l, next), over_more j k numbers l a.1)

over_joined : (j k : ℕ) (numbers : List ℕ) → j < k → AreOver j numbers → AreOver j (joined k numbers)
over_joined j k [] l a = (l, tt)
over_joined j k (n ∷ numbers) l a = by (n == k) (nat_lt n k) (over_joined j k numbers l a.1)
  where
    by : (same less : Bool) → AreOver j (joined k numbers) → AreOver j (if same then n ∷ numbers else if less then n ∷ joined k numbers else k ∷ (n ∷ numbers))
    by true less ih = a
    by false true ih = (a.0, ih)
    by false false ih = (l, a)

joined_rise : (k : ℕ) (numbers : List ℕ) → Rise numbers → Rise (joined k numbers)
joined_rise k [] r = (tt, tt)
joined_rise k (n ∷ numbers) r = by (n == k) (nat_lt n k) refl refl (joined_rise k numbers r.1)
  where
    by : (same less : Bool) → (n == k) ≡ same → nat_lt n k ≡ less → Rise (joined k numbers) → Rise (if same then n ∷ numbers else if less then n ∷ joined k numbers else k ∷ (n ∷ numbers))
    by true less e f ih = r
    by false true e f ih = (over_joined n k numbers (ltb-true n k f) r.0, ih)
    by false false e f ih =
        let apart = eq_apart n k e in
        let least : k < n = (let up = ltb-false n k f in omega (arith, apart, up)) in
        ((least, over_more k n numbers least r.0), r)

rising_rise : (numbers : List ℕ) → Rise (rising numbers)
rising_rise [] = tt
rising_rise (n ∷ numbers) = joined_rise n (rising numbers) (rising_rise numbers)

or_again : (a b : Bool) → (a || b) ≡ (a || (a || b))
or_again true b = refl
or_again false b = refl

or_swap : (a b c : Bool) → (a || (b || c)) ≡ (b || (a || c))
or_swap true true c = refl
or_swap true false c = refl
or_swap false true c = refl
or_swap false false c = refl

among_joined : (number k : ℕ) (numbers : List ℕ) → among number (joined k numbers) ≡ ((k == number) || among number numbers)
among_joined number k [] = refl
among_joined number k (n ∷ numbers) = by (n == k) (nat_lt n k) refl (among_joined number k numbers)
  where
    by : (same less : Bool) → (n == k) ≡ same → among number (joined k numbers) ≡ ((k == number) || among number numbers)
        → among number (if same then n ∷ numbers else if less then n ∷ joined k numbers else k ∷ (n ∷ numbers)) ≡ ((k == number) || ((n == number) || among number numbers))
    by true less e ih = or_again (n == number) (among number numbers) ∙ ap (λ (j : ℕ). (j == number) || ((n == number) || among number numbers)) (eqb-true n k e)
    by false true e ih = ap (λ (b : Bool). (n == number) || b) ih ∙ or_swap (n == number) (k == number) (among number numbers)
    by false false e ih = refl

among_rising : (number : ℕ) (numbers : List ℕ) → among number (rising numbers) ≡ among number numbers
among_rising number [] = refl
among_rising number (n ∷ numbers) = among_joined number n (rising numbers) ∙ ap (λ (b : Bool). (n == number) || b) (among_rising number numbers)

-- those that pass a test

and_false : (a : Bool) → false ≡ (a && false)
and_false true = refl
and_false false = refl

test_step : (keep here test rest left : Bool) → (here ≡ true → keep ≡ test) → left ≡ (test && rest) → (if keep then here || left else left) ≡ (test && (here || rest))
test_step true true test rest left same e = ap (λ (b : Bool). b && true) (same refl)
test_step true false test rest left same e = e
test_step false true test rest left same e = e ∙ (ap (λ (b : Bool). b && rest) (sym (same refl)) ∙ ap (λ (b : Bool). b && true) (same refl))
test_step false false test rest left same e = e

among_kept : (number n : ℕ) (kept : List ℕ) (keep : Bool) → among number (cond keep (n ∷ kept) kept) ≡ (if keep then (n == number) || among number kept else among number kept)
among_kept number n kept true = refl
among_kept number n kept false = refl

among_filter : (number : ℕ) (test : ℕ → Bool) (numbers : List ℕ) → among number (filter test numbers) ≡ (test number && among number numbers)
among_filter number test [] = and_false (test number)
among_filter number test (n ∷ numbers) =
    among_kept number n (filter test numbers) (test n)
    ∙ test_step (test n) (n == number) (test number) (among number numbers) (among number (filter test numbers)) (λ e. ap test (eqb-true n number e)) (among_filter number test numbers)

-- a handle is adopted only where a message offers it

either : {A : Type 0} (a b : Option A) (x y : Bool) → (is_some a ≡ true → x ≡ true) → (is_some b ≡ true → y ≡ true) → is_some (or_else a b) ≡ true → (x || y) ≡ true
either (Some one) b x y f g e = ap (λ (c : Bool). c || y) (f refl)
either None b x y f g e = ap (λ (c : Bool). x || c) (g e) ∙ or_true x

there_if : {A : Type 0} (b : Bool) (o : Option A) → is_some (if b then o else None) ≡ true → is_some o ≡ true
there_if true o e = e
there_if false o e = absurd (cc e)

offer_among : (number : ℕ) (request : Option Id) (o : Option Offered) → is_some (adopted_by number request o) ≡ true → among number (handle_of o) ≡ true
offer_among number request (Some offered) e = by (offered.handle == number) e
  where
    by : (b : Bool) → is_some (if b then adopted_until request offered.lifetime else None) ≡ true → (b || false) ≡ true
    by true f = refl
    by false f = absurd (cc f)
offer_among number request None e = absurd (cc e)

values_among : (number : ℕ) (request : Option Id) (values : List Tree) → is_some (adopted_in number request values) ≡ true → among number (flat_map (λ value. handle_of (offered_in value)) values) ≡ true
values_among number request [] e = absurd (cc e)
values_among number request (value ∷ values) e =
    list_any-append (λ n. n == number) (handle_of (offered_in value)) (flat_map (λ value. handle_of (offered_in value)) values)
    ∙ either (adopted_by number request (offered_in value)) (adopted_in number request values) (among number (handle_of (offered_in value))) (among number (flat_map (λ value. handle_of (offered_in value)) values))
    (offer_among number request (offered_in value)) (values_among number request values) e

message_among : (number : ℕ) (m : Message) (items : List RpcItem) → is_some (adoption number m items) ≡ true → among number (handles_in m) ≡ true
message_among number (Request id method params) items e = values_among number (Some id) (whole_arguments params) (there_if (asks (meaning method params) items) (adopted_in number (Some id) (whole_arguments params)) e)
message_among number (Notification method params) items e = values_among number None (whole_arguments params) (there_if (is_service (meaning method params)) (adopted_in number None (whole_arguments params)) e)
message_among number (message.Result id value) items e =
    ap (among number) (append-nil (handle_of (offered_in value))) ∙ offer_among number None (offered_in value) (there_if (is_some (request_named id items)) (adopted_by number None (offered_in value)) e)
message_among number m items e = absurd (cc e)

got_among : (number : ℕ) (items : List RpcItem) → is_some (adopted number items) ≡ true → among number (flat_map handles_in (all_got items)) ≡ true
got_among number [] e = absurd (cc e)
got_among number (Got place m ∷ items) e =
    ap (among number) (flat_map-append handles_in (all_got items) (m ∷ []) ∙ ap (λ (numbers : List ℕ). flat_map handles_in (all_got items) ++ numbers) (append-nil (handles_in m)))
    ∙ (list_any-append (λ n. n == number) (flat_map handles_in (all_got items)) (handles_in m)
    ∙ either (adopted number items) (adoption number m items) (among number (flat_map handles_in (all_got items))) (among number (handles_in m)) (got_among number items) (message_among number m items) e)
got_among number (Did call ∷ items) e = got_among number items e
got_among number (End cause ∷ items) e = got_among number items e

-- the numbers that were adopted

and_left : (a b : Bool) → (a ≡ true → b ≡ true) → (a && b) ≡ a
and_left true b f = f refl
and_left false b f = refl

-- a number is among them exactly where it was adopted
pub adopted_among : (number : ℕ) (items : List RpcItem) → among number (adopted_numbers items) ≡ is_some (adopted number items)
adopted_among number items =
    among_rising number (filter (λ n. is_some (adopted n items)) (flat_map handles_in (all_got items)))
    ∙ (among_filter number (λ n. is_some (adopted n items)) (flat_map handles_in (all_got items))
    ∙ and_left (is_some (adopted number items)) (among number (flat_map handles_in (all_got items))) (got_among number items))

adopted_rise : (items : List RpcItem) → Rise (adopted_numbers items)
adopted_rise items = rising_rise (filter (λ n. is_some (adopted n items)) (flat_map handles_in (all_got items)))

next_above : (numbers : List ℕ) → Rise numbers → (k : ℕ) → suc k < length numbers → slice_index numbers k < slice_index numbers (suc k)
next_above [] r k l = absurd (omega (arith, l))
next_above (n ∷ []) r k l = absurd (omega (arith, l))
next_above (n ∷ m ∷ numbers) r zero l = r.0.0
next_above (n ∷ m ∷ numbers) r (suc k) l = next_above (m ∷ numbers) r.1 k (omega (arith, l))

-- they rise
pub adopted_increase : (items : List RpcItem) → IsStrictlyIncreasing (adopted_numbers items)
adopted_increase items = λ k l. rw add-one (next_above (adopted_numbers items) (adopted_rise items) k (omega (arith, l)))

-- rising lists with the same numbers are the same

over_absent : (number : ℕ) (numbers : List ℕ) → AreOver number numbers → among number numbers ≡ false
over_absent number [] a = refl
over_absent number (n ∷ numbers) a = ap₂ (λ (b c : Bool). b || c) apart (over_absent number numbers a.1)
  where
    apart : (n == number) ≡ false
    apart = elim (cases_Bool (n == number)) [
      | inl same ↦ absurd (let up = a.0 in omega (arith, eqb-true n number same, up))
      | inr other ↦ other
    ]

first_there : (n : ℕ) (numbers : List ℕ) → among n (n ∷ numbers) ≡ true
first_there n numbers = ap (λ (b : Bool). b || among n numbers) (eq_refl n)

first_least : (number n : ℕ) (numbers : List ℕ) → AreOver n numbers → among number (n ∷ numbers) ≡ true → n ≤ number
first_least number n numbers a e = elim (cases_lt number n) [
  | inl l ↦ absurd (cc (sym e ∙ over_absent number (n ∷ numbers) (l, over_more number n numbers l a)))
  | inr up ↦ up
]

behind_first : (first n : ℕ) (xs ys : List ℕ) → AreOver first xs → AreOver first ys → ((first == n) || among n xs) ≡ ((first == n) || among n ys) → among n xs ≡ among n ys
behind_first first n xs ys a b e = by (first == n) refl e
  where
    by : (same : Bool) → (first == n) ≡ same → (same || among n xs) ≡ (same || among n ys) → among n xs ≡ among n ys
    by true s f =
        let at : n ≡ first = sym (eqb-true first n s) in
        ap (λ (k : ℕ). among k xs) at ∙ (over_absent first xs a ∙ sym (ap (λ (k : ℕ). among k ys) at ∙ over_absent first ys b))
    by false s f = f

same_numbers : (xs ys : List ℕ) → Rise xs → Rise ys → ((n : ℕ) → among n xs ≡ among n ys) → xs ≡ ys
same_numbers [] [] r s e = refl
same_numbers [] (y ∷ ys) r s e = absurd (cc (e y ∙ first_there y ys))
same_numbers (x ∷ xs) [] r s e = absurd (cc (sym (e x) ∙ first_there x xs))
same_numbers (x ∷ xs) (y ∷ ys) r s e =
    let down = first_least x y ys s.0 (sym (e x) ∙ first_there x xs) in
    let up = first_least y x xs r.0 (e y ∙ first_there y ys) in
    let first : x ≡ y = omega (arith, down, up) in
    ap₂ (λ (n : ℕ) (numbers : List ℕ). n ∷ numbers) first
    (same_numbers xs ys r.1 s.1 (λ n. behind_first x n xs ys r.0 (subst (λ (k : ℕ). AreOver k ys) (sym first) s.0) (e n ∙ ap (λ (k : ℕ). (k == n) || among n ys) (sym first))))

-- the numbers that are held

held_over : (number : ℕ) (held : List PeerHandle) → AreAbove number held → AreOver number (map (λ h. h.number) held)
held_over number [] a = tt
held_over number (h ∷ held) a = (a.0, held_over number held a.1)

held_rise : (held : List PeerHandle) → AreRising held → Rise (map (λ h. h.number) held)
held_rise [] r = tt
held_rise (h ∷ held) r = (held_over h.number held r.0, held_rise held r.1)

held_among : (number : ℕ) (held : List PeerHandle) → among number (map (λ h. h.number) held) ≡ is_some (found number held)
held_among number [] = refl
held_among number (h ∷ held) = by (h.number == number) (held_among number held)
  where
    by : (b : Bool) → among number (map (λ h. h.number) held) ≡ is_some (found number held) → (b || among number (map (λ h. h.number) held)) ≡ is_some (if b then Some h else found number held)
    by true ih = refl
    by false ih = ih

mapped_there : {A B : Type 0} (f : A → B) (o : Option A) → is_some (option_map f o) ≡ is_some o
mapped_there f (Some x) = refl
mapped_there f None = refl

numbers_as : (held : List PeerHandle) (items : List RpcItem) → HolderStands held items → map (λ h. h.number) held ≡ adopted_numbers items
numbers_as held items s =
    same_numbers (map (λ h. h.number) held) (adopted_numbers items) (held_rise held s.rising) (adopted_rise items)
    (λ n. held_among n held ∙ (ap is_some (s.each n) ∙ (mapped_there (held_after n items) (adopted n items) ∙ sym (adopted_among n items))))

-- the number at a place
pub number_as : (place : ℕ) (held : List PeerHandle) (items : List RpcItem) → HolderStands held items → number_at place held ≡ slice_get (adopted_numbers items) place
number_as place held items s = sym (slice_get-map (λ h. h.number) held place) ∙ ap (λ (numbers : List ℕ). slice_get numbers place) (numbers_as held items s)
