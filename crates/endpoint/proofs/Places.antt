-- Where the connection of a channel stands in the list of an end.
use Rattle.std.specs.Prelude.{ℕ, ◌<◌, ◌≤◌, zero, suc, map, List, [], ◌∷◌, length, Bool, true, false, nat_lt, if◌then◌else◌, option_map, Option, Some, None}
use Rattle.std.specs.List.{position, position_or_len}
use Rattle.std.proofs.Common.{◌≡◌, inl, inr, refl, sym, ◌∙◌, ap, arith, get_or, set}
use Rattle.std.proofs.lemmas.Bool.{cases_Bool, lt-ltb, ltb-false}
use Rattle.std.proofs.lemmas.List.Quantifiers.{position-Some}
use Rattle.std.proofs.lemmas.List.Sums.{position_or_len_is}
use Rattle.wire_base.specs.declared.state.Cause.{Cause}
use Rattle.mux_items.specs.declared.channel.ChannelKey.{ChannelKey}
use Rattle.mux_items.specs.Bodies.{same_key}
use Rattle.mux_items.specs.Views.{insert_key, precedes}
use Rattle.mux_items.proofs.Keys.{same_key_refl, same_key_true, same_key_turned}
use Rattle.mux_items.proofs.Permits.{if_none}
use Rattle.rpc_end.specs.Ends.{if_running, with_end}
use Rattle.rpc_end.specs.Stands.{RpcValue}
use Rattle.endpoint.specs.declared.attached.Attached.{Attached}
use Rattle.endpoint.specs.Changes.{ended_at, ended_for, insert_attached}
use Rattle.endpoint.specs.Value.{AreOfOne, connection_at}

abbrev pub keys_of : List Attached → List ChannelKey
keys_of xs = map (λ (x : Attached). x.key) xs

-- a connection that runs ends
abbrev pub ending : Cause → RpcValue → RpcValue
ending cause end = if_running end.state (with_end cause end) end

pub same_key_swapped : (a b : ChannelKey) → same_key a b ≡ same_key b a
same_key_swapped a b = elim (cases_Bool (same_key a b)) [
  | inl e ↦ e ∙ sym (same_key_turned a b e)
  | inr e ↦ elim (cases_Bool (same_key b a)) [
    | inl f ↦ absurd (let t : same_key a b ≡ true = same_key_turned b a f in cc)
    | inr f ↦ e ∙ sym f
  ]
]

-- of two tests one passes at most, and so their order is free
other_first : {A : Type 0} (p q : Bool) (a b e : A) → (q ≡ true → p ≡ false) → (if p then a else if q then b else e) ≡ (if q then b else if p then a else e)
other_first true true a b e apart = absurd (let h : true ≡ false = apart refl in cc)
other_first true false a b e apart = refl
other_first false q a b e apart = refl

-- a channel that isn't that of the first connection

apart : (c d : ChannelKey) (x : Attached) → same_key c x.key ≡ false → same_key c d ≡ true → same_key d x.key ≡ false
apart c d x differs same = ap (λ k. same_key k x.key) (sym (same_key_true c d same)) ∙ differs

later_found : (c d : ChannelKey) (x : Attached) (xs ys : List Attached) (v : Option RpcValue) → same_key c x.key ≡ false → connection_at d ys ≡ (if same_key c d then v else connection_at d xs)
    → connection_at d (x ∷ ys) ≡ (if same_key c d then v else connection_at d (x ∷ xs))
later_found c d x xs ys v differs e = ap (λ o. if same_key d x.key then Some x.end else o) e ∙ other_first (same_key d x.key) (same_key c d) (Some x.end) v (connection_at d xs) (apart c d x differs)

first_found : (d : ChannelKey) (x y : Attached) (xs : List Attached) → y.key ≡ x.key → connection_at d (y ∷ xs) ≡ (if same_key x.key d then Some y.end else connection_at d (x ∷ xs))
first_found d x y xs same = ap (λ k. if same_key d k then Some y.end else connection_at d xs) same ∙ (elim (cases_Bool (same_key x.key d)) [
  | inl e ↦ let f : same_key d x.key ≡ true = same_key_turned x.key d e in rw (e, f) refl
  | inr e ↦ let f : same_key d x.key ≡ false = same_key_swapped d x.key ∙ e in rw (e, f) refl
])

-- the parts that say so of an absent channel
pub absent_parts : (c : ChannelKey) (x : Attached) (xs : List Attached) → connection_at c (x ∷ xs) ≡ None → (same_key c x.key ≡ false) × (connection_at c xs ≡ None)
absent_parts c x xs none = if_none (same_key c x.key) x.end (connection_at c xs) none

-- whether channels have connections is told by the keys alone

absent_by_keys : (c : ChannelKey) (xs ys : List Attached) → keys_of xs ≡ keys_of ys → connection_at c xs ≡ None → connection_at c ys ≡ None
absent_by_keys c [] [] same none = refl
absent_by_keys c [] (y ∷ ys) same none = absurd cc
absent_by_keys c (x ∷ xs) [] same none = absurd cc
absent_by_keys c (x ∷ xs) (y ∷ ys) same none =
    let key : x.key ≡ y.key = cc in
    let keys : keys_of xs ≡ keys_of ys = cc in
    let parts = absent_parts c x xs none in
    let differs : same_key c y.key ≡ false = ap (same_key c) (sym key) ∙ parts.0 in
    rw differs (absent_by_keys c xs ys keys parts.1)

pub one_by_keys : (xs ys : List Attached) → keys_of xs ≡ keys_of ys → AreOfOne xs → AreOfOne ys
one_by_keys [] [] same one = tt
one_by_keys [] (y ∷ ys) same one = absurd cc
one_by_keys (x ∷ xs) [] same one = absurd cc
one_by_keys (x ∷ xs) (y ∷ ys) same one =
    let key : x.key ≡ y.key = cc in
    let keys : keys_of xs ≡ keys_of ys = cc in
    (ap (λ k. connection_at k ys) (sym key) ∙ absent_by_keys x.key xs ys keys one.0, one_by_keys xs ys keys one.1)

-- the connection of c, at its place
pub record IsAt (c : ChannelKey) (xs : List Attached) (i : ℕ) (x : Attached) : Type 0 where
  pub key : x.key ≡ c
  pub within : i < length xs
  pub found : connection_at c xs ≡ Some x.end
  pub changes : (y : Attached) → y.key ≡ c → (d : ChannelKey) → connection_at d (set xs i y) ≡ (if same_key c d then Some y.end else connection_at d xs)
  pub keys : (y : Attached) → y.key ≡ c → keys_of (set xs i y) ≡ keys_of xs
  pub ends : (cause : Cause) → ended_at c cause xs ≡ set xs i (ended_for cause x)

first_at : (c : ChannelKey) (xs : List Attached) (i : ℕ) (x : Attached) → i < length xs → x ≡ get_or xs i x → same_key c x.key ≡ true → ((k : ℕ) → k < i → same_key c (get_or xs k x).key ≡ false) → IsAt c xs i x
first_at c [] i x within is same before = absurd (omega arith)
first_at c (z ∷ zs) zero x within is same before =
    let here : same_key c z.key ≡ true = ap (λ (o : Attached). same_key c o.key) (sym is) ∙ same in
    let key : z.key ≡ c = sym (same_key_true c z.key here) in
    record {
      key = sym (same_key_true c x.key same);
      within = within;
      found = rw here (ap (λ (o : Attached). Some o.end) (sym is));
      changes = λ y of d. first_found d z y zs (of ∙ sym key) ∙ ap (λ k. if same_key k d then Some y.end else connection_at d (z ∷ zs)) key;
      keys = λ y of. ap (λ k. k ∷ keys_of zs) (of ∙ sym key);
      ends = λ cause. rw here (ap (λ (o : Attached). ended_for cause o ∷ zs) (sym is));
    }
first_at c (z ∷ zs) (suc i) x within is same before =
    let differs : same_key c z.key ≡ false = before 0 (omega arith) in
    let later = first_at c zs i x (omega arith) is same (λ k h. before (suc k) (omega arith)) in
    record {
      key = later.key;
      within = within;
      found = rw differs later.found;
      changes = λ y of d. later_found c d z zs (set zs i y) (Some y.end) differs (later.changes y of d);
      keys = λ y of. ap (λ ks. z.key ∷ ks) (later.keys y of);
      ends = λ cause. rw differs (ap (λ ys. z ∷ ys) (later.ends cause));
    }

pub at_place : (c : ChannelKey) (xs : List Attached) (i : ℕ) (x : Attached) → position (λ (a : Attached). same_key c a.key) xs ≡ Some i → x ≡ get_or xs i x → IsAt c xs i x
at_place c xs i x place is =
    let parts = position-Some (λ (a : Attached). same_key c a.key) xs i x place in
    first_at c xs i x parts.0 is (ap (λ (o : Attached). same_key c o.key) is ∙ parts.1) parts.2

-- where no channel has two, each stands where its channel is looked up

pub absent_differs : (c : ChannelKey) (xs : List Attached) (i : ℕ) (x : Attached) → i < length xs → connection_at c xs ≡ None → same_key c (get_or xs i x).key ≡ false
absent_differs c [] i x within none = absurd (omega arith)
absent_differs c (z ∷ zs) zero x within none = (absent_parts c z zs none).0
absent_differs c (z ∷ zs) (suc i) x within none = absent_differs c zs i x (omega arith) (absent_parts c z zs none).1

earlier_differ : (xs : List Attached) (i : ℕ) (x : Attached) → i < length xs → x ≡ get_or xs i x → AreOfOne xs → (k : ℕ) → k < i → same_key x.key (get_or xs k x).key ≡ false
earlier_differ [] i x within is one k before = absurd (omega arith)
earlier_differ (z ∷ zs) zero x within is one k before = absurd (omega arith)
earlier_differ (z ∷ zs) (suc i) x within is one zero before = same_key_swapped x.key z.key ∙ (ap (λ (o : Attached). same_key z.key o.key) is ∙ absent_differs z.key zs i x (omega arith) one.0)
earlier_differ (z ∷ zs) (suc i) x within is one (suc k) before = earlier_differ zs i x (omega arith) is one.1 k (omega arith)

pub at_index : (xs : List Attached) (i : ℕ) (x : Attached) → i < length xs → x ≡ get_or xs i x → AreOfOne xs → IsAt x.key xs i x
at_index xs i x within is one = first_at x.key xs i x within is (same_key_refl x.key) (earlier_differ xs i x within is one)

pub placed : (xs : List Attached) (i : ℕ) (x : Attached) → i < length xs → x ≡ get_or xs i x → AreOfOne xs → position (λ (a : Attached). same_key x.key a.key) xs ≡ Some i
placed xs i x within is one =
    let here : position_or_len (λ (a : Attached). same_key x.key a.key) xs ≡ i =
    position_or_len_is (λ (a : Attached). same_key x.key a.key) xs i x (omega arith) (earlier_differ xs i x within is one) (λ h. ap (λ (o : Attached). same_key x.key o.key) (sym is) ∙ same_key_refl x.key) in
    let less : nat_lt i (length xs) ≡ true = lt-ltb i (length xs) within in
    rw (here, less) refl

-- a channel without a connection

absent_past : (c : ChannelKey) (xs : List Attached) → length xs ≤ position_or_len (λ (a : Attached). same_key c a.key) xs → connection_at c xs ≡ None
absent_past c [] past = refl
absent_past c (x ∷ xs) past = elim (cases_Bool (same_key c x.key)) [
  | inl e ↦ absurd (let here = rw e at past in omega (arith, here))
  | inr e ↦ rw e (absent_past c xs (let later = rw e at past in omega (arith, later)))
]

unplaced : (n total : ℕ) → (if nat_lt n total then Some n else None) ≡ None → total ≤ n
unplaced n total e = elim (cases_Bool (nat_lt n total)) [
  | inl less ↦ absurd (let found : Some n ≡ None = sym (rw less refl) ∙ e in cc)
  | inr more ↦ ltb-false n total more
]

pub absent : (c : ChannelKey) (xs : List Attached) → position (λ (a : Attached). same_key c a.key) xs ≡ None → connection_at c xs ≡ None
absent c xs place = absent_past c xs (unplaced (position_or_len (λ (a : Attached). same_key c a.key) xs) (length xs) place)

pub absent_ends : (c : ChannelKey) (cause : Cause) (xs : List Attached) → connection_at c xs ≡ None → ended_at c cause xs ≡ xs
absent_ends c cause [] none = refl
absent_ends c cause (x ∷ xs) none =
    let parts = absent_parts c x xs none in
    rw parts.0 (ap (λ ys. x ∷ ys) (absent_ends c cause xs parts.1))

-- the connection of one channel ends

ended_other : (c d : ChannelKey) (cause : Cause) (xs : List Attached) → same_key c d ≡ false → connection_at d (ended_at c cause xs) ≡ connection_at d xs
ended_other c d cause [] other = refl
ended_other c d cause (x ∷ xs) other = elim (cases_Bool (same_key c x.key)) [
  | inl e ↦
      let is : c ≡ x.key = same_key_true c x.key e in
      let differs : same_key d x.key ≡ false = ap (same_key d) (sym is) ∙ (same_key_swapped d c ∙ other) in
      rw (e, differs) refl
  | inr e ↦ rw e (ap (λ o. if same_key d x.key then Some x.end else o) (ended_other c d cause xs other))
]

ended_same : (c : ChannelKey) (cause : Cause) (xs : List Attached) → connection_at c (ended_at c cause xs) ≡ option_map (ending cause) (connection_at c xs)
ended_same c cause [] = refl
ended_same c cause (x ∷ xs) = elim (cases_Bool (same_key c x.key)) [
  | inl e ↦ rw e (rw e refl)
  | inr e ↦ rw e (rw e (ended_same c cause xs))
]

pub ended_found : (c d : ChannelKey) (cause : Cause) (xs : List Attached) → connection_at d (ended_at c cause xs) ≡ (if same_key c d then option_map (ending cause) (connection_at d xs) else connection_at d xs)
ended_found c d cause xs = elim (cases_Bool (same_key c d)) [
  | inl e ↦ rw e (ap (λ k. connection_at k (ended_at c cause xs)) (sym (same_key_true c d e)) ∙ (ended_same c cause xs ∙ ap (λ k. option_map (ending cause) (connection_at k xs)) (same_key_true c d e)))
  | inr e ↦ rw e (ended_other c d cause xs e)
]

pub ended_keys : (c : ChannelKey) (cause : Cause) (xs : List Attached) → keys_of (ended_at c cause xs) ≡ keys_of xs
ended_keys c cause [] = refl
ended_keys c cause (x ∷ xs) = elim (cases_Bool (same_key c x.key)) [
  | inl e ↦ rw e refl
  | inr e ↦ rw e (ap (λ ks. x.key ∷ ks) (ended_keys c cause xs))
]

-- all connections change

pub each_found : (f : RpcValue → RpcValue) (d : ChannelKey) (xs : List Attached) → connection_at d (map (λ (x : Attached). record x { end = f x.end }) xs) ≡ option_map f (connection_at d xs)
each_found f d [] = refl
each_found f d (x ∷ xs) = elim (cases_Bool (same_key d x.key)) [
  | inl e ↦ rw e refl
  | inr e ↦ rw e (each_found f d xs)
]

pub each_keys : (f : RpcValue → RpcValue) (xs : List Attached) → keys_of (map (λ (x : Attached). record x { end = f x.end }) xs) ≡ keys_of xs
each_keys f [] = refl
each_keys f (x ∷ xs) = ap (λ ks. x.key ∷ ks) (each_keys f xs)

-- a connection takes its place

pub inserted_found : (x : Attached) (d : ChannelKey) (xs : List Attached) → connection_at x.key xs ≡ None → connection_at d (insert_attached x xs) ≡ (if same_key d x.key then Some x.end else connection_at d xs)
inserted_found x d [] none = refl
inserted_found x d (y ∷ ys) none = elim (cases_Bool (precedes y.key x.key)) [
  | inl e ↦
      let parts = absent_parts x.key y ys none in
      rw e (ap (λ o. if same_key d y.key then Some y.end else o) (inserted_found x d ys parts.1)
      ∙ other_first (same_key d y.key) (same_key d x.key) (Some y.end) (Some x.end) (connection_at d ys) (λ same. ap (λ k. same_key k y.key) (same_key_true d x.key same) ∙ parts.0))
  | inr e ↦ rw e refl
]

pub inserted_keys : (x : Attached) (xs : List Attached) → keys_of (insert_attached x xs) ≡ insert_key x.key (keys_of xs)
inserted_keys x [] = refl
inserted_keys x (y ∷ ys) = elim (cases_Bool (precedes y.key x.key)) [
  | inl e ↦ rw e (ap (λ ks. y.key ∷ ks) (inserted_keys x ys))
  | inr e ↦ rw e refl
]

pub inserted_one : (x : Attached) (xs : List Attached) → connection_at x.key xs ≡ None → AreOfOne xs → AreOfOne (insert_attached x xs)
inserted_one x [] none one = (refl, tt)
inserted_one x (y ∷ ys) none one = elim (cases_Bool (precedes y.key x.key)) [
  | inl e ↦
      let parts = absent_parts x.key y ys none in
      let differs : same_key y.key x.key ≡ false = same_key_swapped y.key x.key ∙ parts.0 in
      rw e (inserted_found x y.key ys parts.1 ∙ rw differs one.0, inserted_one x ys parts.1 one.1)
  | inr e ↦ rw e (none, one)
]
