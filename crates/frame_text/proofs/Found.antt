-- What is read is spelled so.
use Rattle.std.proofs.Common.{◌≡◌, ℕ, ◌+◌, ◌-◌, ◌≤◌, ◌<◌, Bool, true, false, cond, ltb, List, [], ◌∷◌, ◌++◌, length, take, drop, Option, Some, None, Result, Ok, Err, refl, sym, ap, subst, ◌∙◌, arith, length-append, append_assoc, inl, inr, ◌⊎◌}
use Rattle.std.specs.Prelude.{◌&&◌, nat_lt, ◌==◌, ℤ, pos, negsuc}
use Rattle.std.proofs.lemmas.Bool.{ltb-true, ltb-false, eqb-true, and_parts}
use Rattle.std.proofs.lemmas.List.{take-append-drop, length-take, append-nil, take_at, length-take-le}
use Rattle.std.specs.Str.{is_utf8}
use Rattle.wire_base.specs.declared.limits.TheConstants.{COUNT_LIMIT, MAX_PAYLOAD}
use Rattle.wire_base.specs.Head.{kind_of, head_of}
use Rattle.wire_base.specs.declared.token.HeadStep.{HeadStep}
use Rattle.wire_base.specs.declared.token.TokenHead.{TokenHead}
use Rattle.wire_base.specs.declared.token.TokenHead.TheVariants as token
use Rattle.wire_base.specs.declared.token.HeadStep.TheVariants as step
use Rattle.wire_base.specs.declared.reason.Reason.{Reason}
use Rattle.wire_base.specs.declared.reason.Reason.TheVariants.{BadCode, BadShape, BadId, BadSource, PayloadTooLong, BadOffer, BadAcceptance, BadProcessed, BadName}
use Rattle.wire_base.specs.declared.frame.Version.{Version}
use Rattle.wire_base.specs.declared.frame.Version.TheVariants as version
use Rattle.wire_base.specs.declared.frame.Code.{Code}
use Rattle.wire_base.specs.declared.frame.Code.TheVariants as code
use Rattle.wire_base.specs.declared.frame.Origin.{Origin}
use Rattle.wire_base.specs.declared.frame.Origin.TheVariants as origin
use Rattle.wire_base.specs.declared.frame.Payload.{Payload}
use Rattle.wire_base.specs.declared.frame.Payload.TheVariants as payload
use Rattle.wire_base.specs.declared.frame.Frame.{Frame}
use Rattle.wire_base.specs.declared.reading.Fault.{Fault}
use Rattle.wire_base.specs.declared.reading.Fault.TheVariants.{Ends, Breaks}
use Rattle.frame_text.specs.Codec.{is_packed, elements}
use Rattle.frame_text.specs.Frames.{code_number}
use Rattle.frame_text.specs.Front.{Whole}
use Rattle.wire_base.specs.ControlCode.{code_of}
use Rattle.frame_text.specs.Reading.{Reading, Reader, follow, ◌>>=◌, done, Sort, a_number, a_str, a_bin, an_array, number_in, str_in, bin_in, array_in, unfinished, allowed, headed, head_at, token_at, inside, inner_at, code_in, id_in, origin_in, count_in, last_in, only, name_of, name_at, optional_at, offer_at, accepted_at, processed_at, spoiled, ended, carried, placed, run_of, payload_at, content_at, origin_at, packed_at, front}
use Rattle.wire_base.specs.Front.{front_of}
use Rattle.frame_text.specs.Spelling.{IsHead, IsOptional, with_optional, IsName, IsOffer, IsAcceptance, IsAcknowledgement, Carries, IsSource, IsElement, PackedFrameIs, FrameIs}
use Rattle.wire_base.proofs.HeadLemmas.{head_within, head_front}
use Rattle.wire_base.proofs.TokenWithin.{tested}

-- ---- steps that did not fail

pub record Followed {A B : Type 0} (r : Reading A) (next : A → Reader B) (y : Reading B) : Type 0 where
  pub value : A
  pub rest : List ℕ
  pub read : r ≡ Ok (value, rest)
  pub then : next value rest ≡ y

pub followed : {A B : Type 0} (r : Reading A) (next : A → Reader B) (y : B × List ℕ) → follow r next ≡ Ok y → Followed r next (Ok y)
followed (Ok x) next y e = record { value = x.0; rest = x.1; read = refl; then = e }
followed (Err fault) next y e = absurd cc

abbrev pub read_as : {A : Type 0} → A → List ℕ → Reading A
read_as x rest = Ok (x, rest)

pub pair_is : {A : Type 0} (p q : A × List ℕ) → read_as p.0 p.1 ≡ read_as q.0 q.1 → p ≡ q
pair_is p q e = cc

value_is : {A : Type 0} (x y : A) (s t : List ℕ) → read_as x s ≡ read_as y t → x ≡ y
value_is x y s t e = ap (λ p. p.0) (pair_is (x, s) (y, t) e)

rest_is : {A : Type 0} (x y : A) (s t : List ℕ) → read_as x s ≡ read_as y t → s ≡ t
rest_is x y s t e = ap (λ p. p.1) (pair_is (x, s) (y, t) e)

pub some_is : {A : Type 0} (x y : A) → Some x ≡ Some y → x ≡ y
some_is x y e = cc

-- ---- tokens

pub record Allowed {A : Type 0} (o : Option A) (rest : List ℕ) (y : A) (after : List ℕ) : Type 0 where
  pub says : o ≡ Some y
  pub after_is : rest ≡ after

pub allowed-found : {A : Type 0} (left : ℕ) (reason : Reason) (o : Option A) (rest : List ℕ) (y : A) (after : List ℕ) → allowed left reason o rest ≡ Ok (y, after) → Allowed o rest y after
allowed-found left reason None rest y after e = absurd cc
allowed-found left reason (Some x) rest y after e = record { says = ap (λ z. Some z) (value_is x y rest after e); after_is = rest_is x y rest after e }

pub record Token {A : Type 0} (sort : Sort A) (bytes : List ℕ) (x : A) (rest : List ℕ) : Type 0 where
  pub head : TokenHead
  pub text : List ℕ
  pub is_head : IsHead head text
  pub says : sort.says head ≡ Some x
  pub parts : bytes ≡ text ++ rest

unfinished-found : {A : Type 0} (sort : Sort A) (reason : Reason) (bytes : List ℕ) (y : A × List ℕ) → unfinished sort reason bytes ≡ Ok y → ⊥
unfinished-found sort reason [] y e = cc
unfinished-found {A} sort reason (b ∷ rest) y e = elim (tested (sort.begins (kind_of b))) [
  | inl t ↦ let f : Err Ends ≡ Ok y = rw t at e in cc
  | inr t ↦ let f : Err (Breaks (length (b ∷ rest)) reason) ≡ Ok y = rw t at e in cc
]

headed-found : {A : Type 0} (sort : Sort A) (reason : Reason) (s : HeadStep) (bytes : List ℕ) (x : A) (rest : List ℕ) → head_of bytes ≡ s → headed sort reason s bytes ≡ Ok (x, rest) → Token sort bytes x rest
headed-found sort reason step.Short bytes x rest h e = absurd (unfinished-found sort reason bytes (x, rest) e)
headed-found sort reason (step.Refused r) bytes x rest h e = absurd cc
headed-found sort reason (step.Got t n) bytes x rest h e =
    let within = head_within bytes t n h in
    let len : length (take n bytes) ≡ n = length-take-le n bytes within.1 in
    let a = allowed-found (length bytes) reason (sort.says t) (drop n bytes) x rest e in
    record {
      head = t;
      text = take n bytes;
      is_head = rw len (head_front bytes t n h);
      says = a.says;
      parts = sym (take-append-drop n bytes) ∙ ap (λ (s : List ℕ). take n bytes ++ s) a.after_is;
    }

pub head_at-found : {A : Type 0} (sort : Sort A) (reason : Reason) (bytes : List ℕ) (x : A) (rest : List ℕ) → head_at sort reason bytes ≡ Ok (x, rest) → Token sort bytes x rest
unfolding head_at
head_at-found sort reason bytes x rest e = headed-found sort reason (head_of bytes) bytes x rest refl e

pub record Made {A B : Type 0} (sort : Sort A) (make : A → Option B) (bytes : List ℕ) (y : B) (rest : List ℕ) : Type 0 where
  pub value : A
  pub token : Token sort bytes value rest
  pub makes : make value ≡ Some y

pub token_at-found : {A B : Type 0} (sort : Sort A) (make : A → Option B) (reason : Reason) (bytes : List ℕ) (y : B) (rest : List ℕ) → token_at sort make reason bytes ≡ Ok (y, rest) → Made sort make bytes y rest
unfolding token_at
token_at-found {A} {B} sort make reason bytes y rest e =
    let next : A → Reader B = λ x. allowed (length bytes) reason (make x) in
    let f = followed (head_at sort reason bytes) next (y, rest) e in
    let a = allowed-found (length bytes) reason (make f.value) f.rest y rest f.then in
    record { value = f.value; token = head_at-found sort reason bytes f.value rest (f.read ∙ ap (λ (s : List ℕ). read_as f.value s) a.after_is); makes = a.says }

inside-found : {A : Type 0} (left : ℕ) (reason : Reason) (r : Reading A) (y : A × List ℕ) → inside left reason r ≡ Ok y → r ≡ Ok y
inside-found left reason (Ok x) y e = e
inside-found left reason (Err Ends) y e = absurd cc
inside-found left reason (Err (Breaks l q)) y e = absurd cc

pub inner_at-found : {A B : Type 0} (sort : Sort A) (make : A → Option B) (reason : Reason) (bytes : List ℕ) (y : B) (rest : List ℕ) → inner_at sort make reason bytes ≡ Ok (y, rest) → Made sort make bytes y rest
unfolding inner_at
inner_at-found sort make reason bytes y rest e = token_at-found sort make reason bytes y rest (inside-found (length bytes) reason (token_at sort make reason bytes) (y, rest) e)

-- ---- what a head says

number_said : (h : TokenHead) (z : ℤ) → number_in h ≡ Some z → h ≡ token.Whole z
number_said (token.Whole x) z e = ap (λ n. token.Whole n) (some_is x z e)
number_said token.Nil z e = absurd cc
number_said (token.Flag v) z e = absurd cc
number_said (token.Str n) z e = absurd cc
number_said (token.Bin n) z e = absurd cc
number_said (token.Array n) z e = absurd cc
number_said (token.Map n) z e = absurd cc

str_said : (h : TokenHead) (m : ℕ) → str_in h ≡ Some m → h ≡ token.Str m
str_said (token.Str x) m e = ap (λ n. token.Str n) (some_is x m e)
str_said token.Nil m e = absurd cc
str_said (token.Flag v) m e = absurd cc
str_said (token.Whole n) m e = absurd cc
str_said (token.Bin n) m e = absurd cc
str_said (token.Array n) m e = absurd cc
str_said (token.Map n) m e = absurd cc

bin_said : (h : TokenHead) (m : ℕ) → bin_in h ≡ Some m → h ≡ token.Bin m
bin_said (token.Bin x) m e = ap (λ n. token.Bin n) (some_is x m e)
bin_said token.Nil m e = absurd cc
bin_said (token.Flag v) m e = absurd cc
bin_said (token.Whole n) m e = absurd cc
bin_said (token.Str n) m e = absurd cc
bin_said (token.Array n) m e = absurd cc
bin_said (token.Map n) m e = absurd cc

array_said : (h : TokenHead) (m : ℕ) → array_in h ≡ Some m → h ≡ token.Array m
array_said (token.Array x) m e = ap (λ n. token.Array n) (some_is x m e)
array_said token.Nil m e = absurd cc
array_said (token.Flag v) m e = absurd cc
array_said (token.Whole n) m e = absurd cc
array_said (token.Str n) m e = absurd cc
array_said (token.Bin n) m e = absurd cc
array_said (token.Map n) m e = absurd cc

pub record Spelled (h : TokenHead) (bytes rest : List ℕ) : Type 0 where
  pub text : List ℕ
  pub is_head : IsHead h text
  pub parts : bytes ≡ text ++ rest

spelled : {A : Type 0} (sort : Sort A) (bytes : List ℕ) (x : A) (rest : List ℕ) (h : TokenHead) → (t : Token sort bytes x rest) → t.head ≡ h → Spelled h bytes rest
spelled sort bytes x rest h t e = record { text = t.text; is_head = t.is_head ∙ ap (λ g. step.Got g (length t.text)) e; parts = t.parts }

-- a token that says a number that is made into something
number-found : {B : Type 0} (make : ℤ → Option B) (bytes : List ℕ) (y : B) (rest : List ℕ) (z : ℤ) → (m : Made a_number make bytes y rest) → m.value ≡ z → Spelled (token.Whole z) bytes rest
number-found make bytes y rest z m e = spelled a_number bytes m.value rest (token.Whole z) m.token (number_said m.token.head m.value m.token.says ∙ ap (λ n. token.Whole n) e)

array-found : {B : Type 0} (make : ℕ → Option B) (bytes : List ℕ) (y : B) (rest : List ℕ) (n : ℕ) → (m : Made an_array make bytes y rest) → m.value ≡ n → Spelled (token.Array n) bytes rest
array-found make bytes y rest n m e = spelled an_array bytes m.value rest (token.Array n) m.token (array_said m.token.head m.value m.token.says ∙ ap (λ k. token.Array k) e)

-- ---- numbers

one_code : (n k : ℕ) (c : Code) (o : Option Code) (d : Code) → cond (n == k) (Some c) o ≡ Some d → ((n ≡ k) × (c ≡ d)) ⊎ (o ≡ Some d)
one_code n k c o d e = elim (tested (n == k)) [
  | inl t ↦ inl (eqb-true n k t, some_is c d (rw t at e))
  | inr t ↦ inr (rw t at e)
]

is_code : (k n : ℕ) (c d : Code) → code_number c ≡ k → n ≡ k → c ≡ d → n ≡ code_number d
is_code k n c d a b e = b ∙ sym a ∙ ap code_number e

pub code_of-found : (n : ℕ) (d : Code) → code_of n ≡ Some d → n ≡ code_number d
code_of-found n d e = elim (one_code n 0 code.Offer _ d e) [
  | inl p ↦ is_code 0 n code.Offer d refl p.0 p.1
  | inr a ↦ elim (one_code n 1 code.OfferAccepted _ d a) [
    | inl p ↦ is_code 1 n code.OfferAccepted d refl p.0 p.1
    | inr b ↦ elim (one_code n 2 code.Content _ d b) [
      | inl p ↦ is_code 2 n code.Content d refl p.0 p.1
      | inr c ↦ elim (one_code n 3 code.ContentWritingCompleted _ d c) [
        | inl p ↦ is_code 3 n code.ContentWritingCompleted d refl p.0 p.1
        | inr f ↦ elim (one_code n 4 code.ChannelTerminated _ d f) [
          | inl p ↦ is_code 4 n code.ChannelTerminated d refl p.0 p.1
          | inr g ↦ elim (one_code n 5 code.ContentProcessed None d g) [
            | inl p ↦ is_code 5 n code.ContentProcessed d refl p.0 p.1
            | inr h ↦ absurd cc
          ]
        ]
      ]
    ]
  ]
]

code_in-found : (z : ℤ) (d : Code) → code_in z ≡ Some d → z ≡ pos (code_number d)
code_in-found (pos n) d e = ap pos (code_of-found n d e)
code_in-found (negsuc k) d e = absurd cc

-- a test that held of the number
guarded : (t : Bool) (n m : ℕ) → cond t (Some n) None ≡ Some m → (t ≡ true) × (n ≡ m)
guarded true n m e = (refl, some_is n m e)
guarded false n m e = absurd cc

pub record IdFound (z : ℤ) (m : ℕ) : Type 0 where
  pub number : z ≡ pos m
  pub some : 0 < m
  pub below : m < COUNT_LIMIT

id_in-found : (z : ℤ) (m : ℕ) → id_in z ≡ Some m → IdFound z m
id_in-found (pos n) m e =
    let g = guarded (nat_lt 0 n && nat_lt n COUNT_LIMIT) n m e in
    let p = and_parts (nat_lt 0 n) (nat_lt n COUNT_LIMIT) g.0 in
    let some : 0 < n = ltb-true 0 n p.0 in
    let below : n < COUNT_LIMIT = ltb-true n COUNT_LIMIT p.1 in
    record { number = ap pos g.1; some = omega (arith, g.1); below = omega (arith, g.1) }
id_in-found (negsuc k) m e = absurd cc

count_in-found : (z : ℤ) (m : ℕ) → count_in z ≡ Some m → (z ≡ pos m) × (m < COUNT_LIMIT)
count_in-found (pos n) m e =
    let g = guarded (nat_lt n COUNT_LIMIT) n m e in
    let below : n < COUNT_LIMIT = ltb-true n COUNT_LIMIT g.0 in
    (ap pos g.1, omega (arith, g.1))
count_in-found (negsuc k) m e = absurd cc

one_origin : (t : Bool) (o p : Origin) → cond t (Some o) None ≡ Some p → (t ≡ true) × (o ≡ p)
one_origin true o p e = (refl, cc)
one_origin false o p e = absurd cc

origin_found : (z : ℤ) (o : Origin) → origin_in z ≡ Some o → ((z ≡ pos 1) × (o ≡ origin.Sender)) ⊎ ((z ≡ negsuc 0) × (o ≡ origin.Receiver))
origin_found (pos n) o e = let p = one_origin (n == 1) origin.Sender o e in inl (ap pos (eqb-true n 1 p.0), sym p.1)
origin_found (negsuc k) o e = let p = one_origin (k == 0) origin.Receiver o e in inr (ap negsuc (eqb-true k 0 p.0), sym p.1)

last_in-found : (least n : ℕ) (has : Bool) → last_in least n ≡ Some has → n ≡ cond has (least + 1) least
last_in-found least n has e = elim (tested (n == least)) [
  | inl t ↦ let f : false ≡ has = some_is false has (rw t at e) in subst (λ h. n ≡ cond h (least + 1) least) f (eqb-true n least t)
  | inr t ↦ elim (tested (n == least + 1)) [
    | inl u ↦ let f : true ≡ has = some_is true has (rw (t, u) at e) in subst (λ h. n ≡ cond h (least + 1) least) f (eqb-true n (least + 1) u)
    | inr u ↦ let f : None ≡ Some has = rw (t, u) at e in absurd cc
  ]
]

only-found : (k n m : ℕ) → only k n ≡ Some m → n ≡ k
only-found k n m e = eqb-true n k (guarded (n == k) n m e).0

-- ---- payloads

abbrev present : Option ℕ → Bool
present None = false
present (Some n) = true

pub record FoundOptional (has : Bool) (bytes : List ℕ) (window : Option ℕ) (rest : List ℕ) : Type 0 where
  pub text : List ℕ
  pub is : IsOptional window text
  pub has_is : has ≡ present window
  pub parts : bytes ≡ text ++ rest

abbrev some_read : ℕ → Reader (Option ℕ)
some_read n = done (Some n)

optional-found : (has : Bool) (reason : Reason) (bytes : List ℕ) (window : Option ℕ) (rest : List ℕ) → optional_at has reason bytes ≡ Ok (window, rest) → FoundOptional has bytes window rest
unfolding optional_at
optional-found false reason bytes window rest e =
    subst (λ (x : Option ℕ × List ℕ). FoundOptional false bytes x.0 x.1) (pair_is (None, bytes) (window, rest) e)
    (record { text = []; is = refl; has_is = refl; parts = refl })
optional-found true reason bytes window rest e =
    let f = followed (inner_at a_number count_in reason bytes) some_read (window, rest) e in
    let m = inner_at-found a_number count_in reason bytes f.value f.rest f.read in
    let c = count_in-found m.value f.value m.makes in
    let t = number-found count_in bytes f.value f.rest (pos f.value) m c.0 in
    subst (λ (x : Option ℕ × List ℕ). FoundOptional true bytes x.0 x.1) (pair_is (Some f.value, f.rest) (window, rest) f.then)
    (record { text = t.text; is = (t.is_head, c.1); has_is = refl; parts = t.parts })

elements-is : (least n : ℕ) (has : Bool) (window : Option ℕ) → n ≡ cond has (least + 1) least → has ≡ present window → n ≡ with_optional least window
elements-is least n has None e h = rw h at e
elements-is least n has (Some w) e h = rw h at e

-- an array, which has its last element if a window follows
inner_array-found : (least : ℕ) (reason : Reason) (bytes : List ℕ) (has : Bool) (rest : List ℕ) (window : Option ℕ) → inner_at an_array (last_in least) reason bytes ≡ Ok (has, rest) → has ≡ present window → Spelled (token.Array (with_optional least window)) bytes rest
inner_array-found least reason bytes has rest window e h =
    let m = inner_at-found an_array (last_in least) reason bytes has rest e in
    array-found (last_in least) bytes has rest (with_optional least window) m (elements-is least m.value has window (last_in-found least m.value has m.makes) h)

pub record FoundName (bytes name rest : List ℕ) : Type 0 where
  pub text : List ℕ
  pub is : IsName name text
  pub parts : bytes ≡ text ++ rest

pub record Cut (n : ℕ) (bytes x rest : List ℕ) : Type 0 where
  pub len : length x ≡ n
  pub utf8 : is_utf8 x ≡ true
  pub parts : bytes ≡ x ++ rest

name_of-found : (total n : ℕ) (bytes x rest : List ℕ) → name_of total n bytes ≡ Ok (x, rest) → Cut n bytes x rest
name_of-found total n bytes x rest e = elim (tested (ltb (length bytes) n)) [
  | inl t ↦ let f : Err (Breaks total BadOffer) ≡ read_as x rest = rw t at e in absurd cc
  | inr t ↦ elim (tested (is_utf8 (take n bytes))) [
    | inl u ↦
        let f : read_as (take n bytes) (drop n bytes) ≡ read_as x rest = rw (t, u) at e in
        let long : n ≤ length bytes = ltb-false (length bytes) n t in
        subst (λ (p : List ℕ × List ℕ). Cut n bytes p.0 p.1) (pair_is (take n bytes, drop n bytes) (x, rest) f)
        (record { len = simp length-take (omega arith); utf8 = u; parts = sym (take-append-drop n bytes) })
    | inr u ↦ let f : Err (Breaks total BadName) ≡ read_as x rest = rw (t, u) at e in absurd cc
  ]
]

name_at-found : (bytes name rest : List ℕ) → name_at bytes ≡ Ok (name, rest) → FoundName bytes name rest
unfolding name_at
name_at-found bytes name rest e =
    let f = followed (inner_at a_str (λ n. Some n) BadOffer bytes) (name_of (length bytes)) (name, rest) e in
    let m = inner_at-found a_str (λ n. Some n) BadOffer bytes f.value f.rest f.read in
    let c = name_of-found (length bytes) f.value f.rest name rest f.then in
    let said : m.token.head ≡ token.Str (length name) = str_said m.token.head m.value m.token.says ∙ ap (λ k. token.Str k) (some_is m.value f.value m.makes ∙ sym c.len) in
    let t = spelled a_str bytes m.value f.rest (token.Str (length name)) m.token said in
    record {
      text = t.text ++ name;
      is = record { head = t.text; is_head = t.is_head; utf8 = c.utf8; parts = refl };
      parts = t.parts ∙ ap (λ (s : List ℕ). t.text ++ s) c.parts ∙ sym (append_assoc t.text name rest);
    }

abbrev offered : List ℕ → Option ℕ → Reader Payload
offered name window = done (payload.Offer name window)

abbrev after_name : Bool → List ℕ → Reader Payload
after_name has name = optional_at has BadOffer >>= offered name

abbrev after_array : Bool → Reader Payload
after_array has = name_at >>= after_name has

pub record FoundOffer (bytes : List ℕ) (p : Payload) : Type 0 where
  pub name : List ℕ
  pub window : Option ℕ
  pub is : IsOffer name window bytes
  pub payload_is : payload.Offer name window ≡ p

offer_at-found : (bytes : List ℕ) (p : Payload) → offer_at bytes ≡ Ok (p, []) → FoundOffer bytes p
unfolding offer_at
offer_at-found bytes p e =
    let a = followed (inner_at an_array (last_in 1) BadOffer bytes) after_array (p, []) e in
    let b = followed (name_at a.rest) (after_name a.value) (p, []) a.then in
    let c = followed (optional_at a.value BadOffer b.rest) (offered b.value) (p, []) b.then in
    let done_is = pair_is (payload.Offer b.value c.value, c.rest) (p, []) c.then in
    let o = optional-found a.value BadOffer b.rest c.value c.rest c.read in
    let t = inner_array-found 1 BadOffer bytes a.value a.rest c.value a.read o.has_is in
    let n = name_at-found a.rest b.value b.rest b.read in
    let last : b.rest ≡ o.text = o.parts ∙ ap (λ (q : Payload × List ℕ). o.text ++ q.1) done_is ∙ append-nil o.text in
    record {
      name = b.value;
      window = c.value;
      is = record {
        array = t.text;
        first = n.text;
        second = o.text;
        is_array = t.is_head;
        is_name = n.is;
        is_window = o.is;
        parts = t.parts ∙ ap (λ (s : List ℕ). t.text ++ s) (n.parts ∙ ap (λ (s : List ℕ). n.text ++ s) last);
      };
      payload_is = ap (λ q. q.0) done_is;
    }

abbrev accepts : Option ℕ → Reader Payload
accepts window = done (payload.Accepted window)

abbrev after_accepted : Bool → Reader Payload
after_accepted has = optional_at has BadAcceptance >>= accepts

pub record FoundAcceptance (bytes : List ℕ) (p : Payload) : Type 0 where
  pub window : Option ℕ
  pub is : IsAcceptance window bytes
  pub payload_is : payload.Accepted window ≡ p

accepted_at-found : (bytes : List ℕ) (p : Payload) → accepted_at bytes ≡ Ok (p, []) → FoundAcceptance bytes p
unfolding accepted_at
accepted_at-found bytes p e =
    let a = followed (inner_at an_array (last_in 0) BadAcceptance bytes) after_accepted (p, []) e in
    let c = followed (optional_at a.value BadAcceptance a.rest) accepts (p, []) a.then in
    let done_is = pair_is (payload.Accepted c.value, c.rest) (p, []) c.then in
    let o = optional-found a.value BadAcceptance a.rest c.value c.rest c.read in
    let t = inner_array-found 0 BadAcceptance bytes a.value a.rest c.value a.read o.has_is in
    let last : a.rest ≡ o.text = o.parts ∙ ap (λ (q : Payload × List ℕ). o.text ++ q.1) done_is ∙ append-nil o.text in
    record {
      window = c.value;
      is = record {
        array = t.text;
        first = o.text;
        is_array = t.is_head;
        is_window = o.is;
        parts = t.parts ∙ ap (λ (s : List ℕ). t.text ++ s) last;
      };
      payload_is = ap (λ q. q.0) done_is;
    }

abbrev processes : ℕ → Reader Payload
processes count = done (payload.Processed count)

abbrev after_processed : ℕ → Reader Payload
after_processed n = inner_at a_number count_in BadProcessed >>= processes

pub record FoundAcknowledgement (bytes : List ℕ) (p : Payload) : Type 0 where
  pub count : ℕ
  pub is : IsAcknowledgement count bytes
  pub payload_is : payload.Processed count ≡ p

processed_at-found : (bytes : List ℕ) (p : Payload) → processed_at bytes ≡ Ok (p, []) → FoundAcknowledgement bytes p
unfolding processed_at
processed_at-found bytes p e =
    let a = followed (inner_at an_array (only 1) BadProcessed bytes) after_processed (p, []) e in
    let c = followed (inner_at a_number count_in BadProcessed a.rest) processes (p, []) a.then in
    let done_is = pair_is (payload.Processed c.value, c.rest) (p, []) c.then in
    let m = inner_at-found a_number count_in BadProcessed a.rest c.value c.rest c.read in
    let n = count_in-found m.value c.value m.makes in
    let o = number-found count_in a.rest c.value c.rest (pos c.value) m n.0 in
    let k = inner_at-found an_array (only 1) BadProcessed bytes a.value a.rest a.read in
    let t = array-found (only 1) bytes a.value a.rest 1 k (only-found 1 k.value a.value k.makes) in
    let last : a.rest ≡ o.text = o.parts ∙ ap (λ (q : Payload × List ℕ). o.text ++ q.1) done_is ∙ append-nil o.text in
    record {
      count = c.value;
      is = record {
        array = t.text;
        first = o.text;
        is_array = t.is_head;
        is_count = (o.is_head, n.1);
        parts = t.parts ∙ ap (λ (s : List ℕ). t.text ++ s) last;
      };
      payload_is = ap (λ q. q.0) done_is;
    }

none_of : (s : List ℕ) → length s ≡ 0 → s ≡ []
none_of [] e = refl
none_of (b ∷ s) e = absurd (omega (arith, e))

abbrev pub whole : Payload → Result Payload Fault
whole p = Ok p

pub whole_is : (p q : Payload) → whole p ≡ whole q → p ≡ q
whole_is p q e = cc

ended-found : (reason : Reason) (r : Reading Payload) (p : Payload) → ended reason r ≡ Ok p → r ≡ Ok (p, [])
ended-found reason (Err fault) p e = absurd cc
ended-found reason (Ok x) p e = elim (tested (length x.1 == 0)) [
  | inl t ↦
      let f : x.0 ≡ p = whole_is x.0 p (rw t at e) in
      ap (λ (s : List ℕ). read_as x.0 s) (none_of x.1 (eqb-true (length x.1) 0 t)) ∙ ap (λ q. read_as q []) f
  | inr t ↦ let f : Err (Breaks (length x.1) (spoiled reason (head_of x.1))) ≡ whole p = rw t at e in absurd cc
]

pub carried-found : (c : Code) (bytes : List ℕ) (p : Payload) → carried c bytes ≡ Ok p → Carries c p bytes
unfolding carried
carried-found code.Offer bytes p e =
    let f = offer_at-found bytes p (ended-found BadOffer (offer_at bytes) p e) in
    subst (λ q. Carries code.Offer q bytes) f.payload_is f.is
carried-found code.OfferAccepted bytes p e =
    let f = accepted_at-found bytes p (ended-found BadAcceptance (accepted_at bytes) p e) in
    subst (λ q. Carries code.OfferAccepted q bytes) f.payload_is f.is
carried-found code.Content bytes p e = subst (λ q. Carries code.Content q bytes) (whole_is (payload.Content bytes) p e) refl
carried-found code.ContentWritingCompleted bytes p e = subst (λ q. Carries code.ContentWritingCompleted q bytes) (whole_is payload.Nothing p e) tt
carried-found code.ChannelTerminated bytes p e = subst (λ q. Carries code.ChannelTerminated q bytes) (whole_is payload.Nothing p e) tt
carried-found code.ContentProcessed bytes p e =
    let f = processed_at-found bytes p (ended-found BadProcessed (processed_at bytes) p e) in
    subst (λ q. Carries code.ContentProcessed q bytes) f.payload_is f.is

-- ---- a payload's element

pub record FoundElement (has : Bool) (bytes x rest : List ℕ) : Type 0 where
  pub text : List ℕ
  pub is : IsElement has x text
  pub parts : bytes ≡ text ++ rest

pub record Run (n : ℕ) (bytes x rest : List ℕ) : Type 0 where
  pub len : length x ≡ n
  pub most : n ≤ MAX_PAYLOAD
  pub parts : bytes ≡ x ++ rest

run_of-found : (total n : ℕ) (bytes x rest : List ℕ) → run_of total n bytes ≡ Ok (x, rest) → Run n bytes x rest
run_of-found total n bytes x rest e = elim (tested (ltb MAX_PAYLOAD n)) [
  | inl t ↦ let f : Err (Breaks total PayloadTooLong) ≡ read_as x rest = rw t at e in absurd cc
  | inr t ↦ elim (tested (ltb (length bytes) n)) [
    | inl u ↦ let f : Err Ends ≡ read_as x rest = rw (t, u) at e in absurd cc
    | inr u ↦
        let f : read_as (take n bytes) (drop n bytes) ≡ read_as x rest = rw (t, u) at e in
        let long : n ≤ length bytes = ltb-false (length bytes) n u in
        let most : n ≤ MAX_PAYLOAD = ltb-false MAX_PAYLOAD n t in
        subst (λ (p : List ℕ × List ℕ). Run n bytes p.0 p.1) (pair_is (take n bytes, drop n bytes) (x, rest) f)
        (record { len = simp length-take (omega arith); most = most; parts = sym (take-append-drop n bytes) })
  ]
]

payload_at-found : (has : Bool) (bytes x rest : List ℕ) → payload_at has bytes ≡ Ok (x, rest) → FoundElement has bytes x rest
unfolding payload_at
payload_at-found false bytes x rest e =
    subst (λ (p : List ℕ × List ℕ). FoundElement false bytes p.0 p.1) (pair_is ([], bytes) (x, rest) e) (record { text = []; is = (refl, refl); parts = refl })
payload_at-found true bytes x rest e =
    let f = followed (head_at a_bin BadShape bytes) (run_of (length bytes)) (x, rest) e in
    let k = head_at-found a_bin BadShape bytes f.value f.rest f.read in
    let r = run_of-found (length bytes) f.value f.rest x rest f.then in
    let t = spelled a_bin bytes f.value f.rest (token.Bin (length x)) k (bin_said k.head f.value k.says ∙ ap (λ n. token.Bin n) (sym r.len)) in
    record {
      text = t.text ++ x;
      is = record { head = t.text; is_head = t.is_head; most = omega (arith, r.len, r.most); parts = refl };
      parts = t.parts ∙ ap (λ (s : List ℕ). t.text ++ s) r.parts ∙ sym (append_assoc t.text x rest);
    }

pub record Placed {A : Type 0} (r : Result A Fault) (rest : List ℕ) (x : A) (after : List ℕ) : Type 0 where
  pub read : r ≡ Ok x
  pub after_is : rest ≡ after

pub placed-found : (r : Result Payload Fault) (rest : List ℕ) (p : Payload) (after : List ℕ) → placed r rest ≡ Ok (p, after) → Placed r rest p after
placed-found (Ok q) rest p after e = record { read = ap whole (value_is q p rest after e); after_is = rest_is q p rest after e }
placed-found (Err Ends) rest p after e = absurd cc
placed-found (Err (Breaks left reason)) rest p after e = absurd cc

pub record FoundContent (has : Bool) (c : Code) (bytes : List ℕ) (p : Payload) (rest : List ℕ) : Type 0 where
  pub text : List ℕ
  pub content : List ℕ
  pub is : IsElement has content text
  pub carries : Carries c p content
  pub parts : bytes ≡ text ++ rest

content_at-found : (has : Bool) (c : Code) (bytes : List ℕ) (p : Payload) (rest : List ℕ) → content_at has c bytes ≡ Ok (p, rest) → FoundContent has c bytes p rest
unfolding content_at
content_at-found has c bytes p rest e =
    let next : List ℕ → Reader Payload = λ s. placed (carried c s) in
    let f = followed (payload_at has bytes) next (p, rest) e in
    let q = placed-found (carried c f.value) f.rest p rest f.then in
    let k = payload_at-found has bytes f.value f.rest f.read in
    record { text = k.text; content = f.value; is = k.is; carries = carried-found c f.value p q.read; parts = k.parts ∙ ap (λ (s : List ℕ). k.text ++ s) q.after_is }

-- ---- frames

pub record FoundSource (v : Version) (bytes : List ℕ) (o : Origin) (rest : List ℕ) : Type 0 where
  pub text : List ℕ
  pub is : IsSource v o text
  pub parts : bytes ≡ text ++ rest

no_source-found : (v : Version) (bytes : List ℕ) (o : Origin) (rest : List ℕ) → IsSource v origin.ByParity [] → read_as origin.ByParity bytes ≡ Ok (o, rest) → FoundSource v bytes o rest
no_source-found v bytes o rest none e =
    subst (λ (p : Origin × List ℕ). FoundSource v bytes p.0 p.1) (pair_is (origin.ByParity, bytes) (o, rest) e) (record { text = []; is = none; parts = refl })

origin_at-found : (v : Version) (bytes : List ℕ) (o : Origin) (rest : List ℕ) → origin_at v bytes ≡ Ok (o, rest) → FoundSource v bytes o rest
origin_at-found version.One bytes o rest e = no_source-found version.One bytes o rest refl e
origin_at-found version.Two bytes o rest e = no_source-found version.Two bytes o rest refl e
origin_at-found version.Three bytes o rest e =
    let m = token_at-found a_number origin_in BadSource bytes o rest e in
    elim (origin_found m.value o m.makes) [
      | inl p ↦
          let t = number-found origin_in bytes o rest (pos 1) m p.0 in
          subst (λ q. FoundSource version.Three bytes q rest) (sym p.1) (record { text = t.text; is = t.is_head; parts = t.parts })
      | inr p ↦
          let t = number-found origin_in bytes o rest (negsuc 0) m p.0 in
          subst (λ q. FoundSource version.Three bytes q rest) (sym p.1) (record { text = t.text; is = t.is_head; parts = t.parts })
    ]

abbrev framed : Code → ℕ → Origin → Payload → Reader Frame
framed c id o p = done (record { code = c; id = id; origin = o; payload = p })

abbrev after_source : Bool → Code → ℕ → Origin → Reader Frame
after_source has c id o = content_at has c >>= framed c id o

abbrev after_id : Version → Bool → Code → ℕ → Reader Frame
after_id v has c id = origin_at v >>= after_source has c id

abbrev after_code : Version → Bool → Code → Reader Frame
after_code v has c = token_at a_number id_in BadId >>= after_id v has c

abbrev after_elements : Version → Bool → Reader Frame
after_elements v has = token_at a_number code_in BadCode >>= after_code v has

pub record FoundFrame (v : Version) (bytes : List ℕ) (f : Frame) (rest : List ℕ) : Type 0 where
  pub text : List ℕ
  pub is : PackedFrameIs v f text
  pub parts : bytes ≡ text ++ rest

pub packed_at-found : (v : Version) (bytes : List ℕ) (f : Frame) (rest : List ℕ) → packed_at v bytes ≡ Ok (f, rest) → FoundFrame v bytes f rest
unfolding packed_at
packed_at-found v bytes f rest e =
    let a = followed (token_at an_array (last_in (elements v)) BadShape bytes) (after_elements v) (f, rest) e in
    let b = followed (token_at a_number code_in BadCode a.rest) (after_code v a.value) (f, rest) a.then in
    let c = followed (token_at a_number id_in BadId b.rest) (after_id v a.value b.value) (f, rest) b.then in
    let d = followed (origin_at v c.rest) (after_source a.value b.value c.value) (f, rest) c.then in
    let g = followed (content_at a.value b.value d.rest) (framed b.value c.value d.value) (f, rest) d.then in
    let am = token_at-found an_array (last_in (elements v)) BadShape bytes a.value a.rest a.read in
    let bm = token_at-found a_number code_in BadCode a.rest b.value b.rest b.read in
    let cm = token_at-found a_number id_in BadId b.rest c.value c.rest c.read in
    let id = id_in-found cm.value c.value cm.makes in
    let at = array-found (last_in (elements v)) bytes a.value a.rest (cond a.value (elements v + 1) (elements v)) am (last_in-found (elements v) am.value a.value am.makes) in
    let bt = number-found code_in a.rest b.value b.rest (pos (code_number b.value)) bm (code_in-found bm.value b.value bm.makes) in
    let ct = number-found id_in b.rest c.value c.rest (pos c.value) cm id.number in
    let dt = origin_at-found v c.rest d.value d.rest d.read in
    let gt = content_at-found a.value b.value d.rest g.value g.rest g.read in
    let text = at.text ++ (bt.text ++ (ct.text ++ (dt.text ++ gt.text))) in
    subst (λ (p : Frame × List ℕ). FoundFrame v bytes p.0 p.1) (pair_is (record { code = b.value; id = c.value; origin = d.value; payload = g.value }, g.rest) (f, rest) g.then)
    (record {
      text = text;
      is = record {
        has_payload = a.value;
        array = at.text;
        first = bt.text;
        second = ct.text;
        third = dt.text;
        last = gt.text;
        bytes = gt.content;
        is_array = at.is_head;
        is_code = bt.is_head;
        is_id = ct.is_head;
        some_id = id.some;
        id_below = id.below;
        is_source = dt.is;
        is_payload = gt.is;
        carries = gt.carries;
        parts = refl;
      };
      parts = at.parts ∙ ap (λ (s : List ℕ). at.text ++ s) (bt.parts ∙ ap (λ (s : List ℕ). bt.text ++ s) (ct.parts ∙ ap (λ (s : List ℕ). ct.text ++ s) (dt.parts ∙ ap (λ (s : List ℕ). dt.text ++ s) gt.parts))) ∙ simp append_assoc;
    })

-- ---- the front

pub record FoundFront (v : Version) (bytes : List ℕ) (f : Frame) (size : ℕ) : Type 0 where
  pub rest : List ℕ
  pub found : FoundFrame v bytes f rest
  pub size_is : size ≡ length found.text

pub whole_frame : (f g : Frame) (m n : ℕ) → Whole f m ≡ Whole g n → (f ≡ g) × (m ≡ n)
whole_frame f g m n e = (cc, cc)

front_of-found : (v : Version) (bytes : List ℕ) (r : Reading Frame) (f : Frame) (size : ℕ) → packed_at v bytes ≡ r → front_of (length bytes) r ≡ Whole f size → FoundFront v bytes f size
front_of-found v bytes (Err Ends) f size r e = absurd cc
front_of-found v bytes (Err (Breaks left reason)) f size r e = absurd cc
front_of-found v bytes (Ok x) f size r e =
    let w = whole_frame x.0 f (length bytes - length x.1) size e in
    let p = packed_at-found v bytes f x.1 (r ∙ ap (λ g. read_as g x.1) w.0) in
    let len : length bytes ≡ length p.text + length x.1 = ap length p.parts ∙ length-append p.text x.1 in
    record { rest = x.1; found = p; size_is = omega (arith, w.1, len) }

front_found : (v : Version) (bytes : List ℕ) (f : Frame) (size : ℕ) → front_of (length bytes) (packed_at v bytes) ≡ Whole f size → PackedFrameIs v f (take size bytes)
front_found v bytes f size e =
    let p = front_of-found v bytes (packed_at v bytes) f size refl e in
    let front_is : take size bytes ≡ p.found.text = ap (λ (s : List ℕ). take size s) p.found.parts ∙ take_at p.found.text p.rest size (sym p.size_is) in
    subst (λ (s : List ℕ). PackedFrameIs v f s) (sym front_is) p.found.is

pub front_spelled : (v : Version) (bytes : List ℕ) (f : Frame) (size : ℕ) → is_packed v ≡ true → front v bytes ≡ Whole f size → FrameIs v f (take size bytes)
unfolding front
front_spelled version.One bytes f size p e = absurd cc
front_spelled version.Two bytes f size p e = front_found version.Two bytes f size e
front_spelled version.Three bytes f size p e = front_found version.Three bytes f size e
