-- A frame is refused at its first token that breaks a rule.
use Rattle.std.proofs.Common.{◌≡◌, ℕ, ◌+◌, ◌-◌, ◌≤◌, Bool, true, false, cond, ltb, List, [], ◌∷◌, length, take, drop, Option, Some, None, Result, Ok, Err, refl, sym, ap, ◌∙◌, arith, length-drop, inl, inr}
use Rattle.std.specs.Prelude.{pos, negsuc, is_some, not, ◌&&◌, ◌||◌, ◌==◌, nat_lt}
use Rattle.std.specs.Int.{w8, w16, w32, byte_len, from_be_bytes, cast_signed}
use Rattle.std.specs.Str.{is_utf8}
use Rattle.std.proofs.lemmas.Bool.{ltb-true, ltb-false, le-ltb, lt-ltb, eqb-true, eqb-false, ne_eqb}
use Rattle.std.proofs.lemmas.List.{length-take, drop-drop}
use Rattle.wire_base.specs.declared.limits.TheConstants.{COUNT_LIMIT, MAX_PAYLOAD}
use Rattle.wire_base.specs.Head.{Kind, whole_head, unsigned, signed, str, bin, array, map, refused, kind_of, head_of, read_kind}
use Rattle.wire_base.specs.declared.token.TokenHead.{TokenHead}
use Rattle.wire_base.specs.declared.token.TokenHead.TheVariants as token
use Rattle.wire_base.specs.declared.token.HeadStep.TheVariants as step
use Rattle.wire_base.specs.declared.reason.Reason.{Reason}
use Rattle.wire_base.specs.declared.reason.Reason.TheVariants.{BadCode, BadShape, BadId, BadSource, PayloadTooLong, BadOffer, BadAcceptance, BadProcessed, BadName}
use Rattle.wire_base.specs.declared.reading.Fault.{Fault}
use Rattle.wire_base.specs.declared.reading.Fault.TheVariants.{Ends, Breaks}
use Rattle.wire_base.specs.declared.frame.Version.{Version}
use Rattle.wire_base.specs.declared.frame.Version.TheVariants as version
use Rattle.wire_base.specs.declared.frame.Code.{Code}
use Rattle.wire_base.specs.declared.frame.Code.TheVariants as code
use Rattle.wire_base.specs.declared.frame.Origin.{Origin}
use Rattle.wire_base.specs.declared.frame.Origin.TheVariants as origin
use Rattle.wire_base.specs.declared.frame.Payload.{Payload}
use Rattle.wire_base.specs.declared.frame.Payload.TheVariants as payload
use Rattle.wire_base.specs.declared.frame.Frame.{Frame}
use Rattle.wire_base.specs.ControlCode.{code_of}
use Rattle.wire_base.specs.Front.{Broken}
use Rattle.wire_base.specs.Tokens.{Reading, follow, done, a_number, a_str, a_bin, an_array, allowed, inside, head_at, inner_at, token_at, field_at, bytes_at, placed, count_in, last_in, only}
use Rattle.wire_base.specs.Rules.{Judged, passes, cut, breaks, judged, closed, with_text, text_judged, body_size, Refusal, end_refusal, unwanted, has_count, has_count_from, has_length, says_text, field_judged}
use Rattle.wire_base.proofs.TokenSorts.{is_sort-number, is_sort-str, is_sort-bin, is_sort-array, bin-own}
use Rattle.wire_base.proofs.TokenWithin.{tested}
use Rattle.wire_base.proofs.Refusals.{IsRefused, at_offset, Step, step-then, meant, IsDue, some_if, number_says, head-step, token-step, inner-step, field-step, follow-assoc, done-refused, front_of-refused, refused-front_of}
use Rattle.frame_text.specs.Codec.{elements}
use Rattle.frame_text.specs.Reading.{code_in, id_in, origin_in, name_of, name_at, optional_at, offer_at, accepted_at, processed_at, spoiled, ended, carried, run_of, payload_at, content_at, origin_at, packed_at, plain_of, plain_code, plain_id, plain_carried, plain_content_at, plain_at, frame_at, front}
use Rattle.frame_text.specs.Rules.{array_due, code_due, id_due, says_source, source_due, payload_due, name_due, count_due, one_due, optional_refusal, name_then, offer_refusal, acceptance_refusal, acknowledgement_refusal, carried_refusal, body_refusal, payload_refusal, code_said, source_then, packed_refusal, plain_carried_refusal, plain_body_refusal, plain_refusal, first_refusal}
use Rattle.frame_text.proofs.Found.{code_of-found}
use Rattle.frame_text.proofs.Plain.{not_plain}

-- ---- the tokens that are due

either : (a b : Bool) → (a || b) ≡ is_some (cond a (Some false) (cond b (Some true) None))
either true b = refl
either false true = refl
either false false = refl

unless : {A : Type 0} (t : Bool) (x : A) → not t ≡ is_some (cond t None (Some x))
unless true x = refl
unless false x = refl

array_says : (least : ℕ) (h : TokenHead) → has_count_from least h ≡ is_some (meant an_array (last_in least) h)
array_says least (token.Array n) = either (n == least) (n == least + 1)
array_says least token.Nil = refl
array_says least (token.Flag v) = refl
array_says least (token.Whole z) = refl
array_says least (token.Str n) = refl
array_says least (token.Bin n) = refl
array_says least (token.Map n) = refl

is_array_due : (least : ℕ) (reason : Reason) → IsDue an_array (last_in least) (array_due least reason)
is_array_due least reason = record { begins = λ k. refl; says = array_says least; own = λ k rest h n own e none. refl }

one_says : (h : TokenHead) → has_count 1 h ≡ is_some (meant an_array (only 1) h)
one_says (token.Array n) = some_if (n == 1) n
one_says token.Nil = refl
one_says (token.Flag v) = refl
one_says (token.Whole z) = refl
one_says (token.Str n) = refl
one_says (token.Bin n) = refl
one_says (token.Map n) = refl

is_one_due : (reason : Reason) → IsDue an_array (only 1) (one_due reason)
is_one_due reason = record { begins = λ k. refl; says = one_says; own = λ k rest h n own e none. refl }

code_some : (n : ℕ) → nat_lt n 6 ≡ is_some (code_of n)
code_some n = elim (tested (n == 0)) [
  | inl a ↦ rw (eqb-true n 0 a) refl
  | inr a ↦ elim (tested (n == 1)) [
    | inl b ↦ rw (eqb-true n 1 b) refl
    | inr b ↦ elim (tested (n == 2)) [
      | inl c ↦ rw (eqb-true n 2 c) refl
      | inr c ↦ elim (tested (n == 3)) [
        | inl d ↦ rw (eqb-true n 3 d) refl
        | inr d ↦ elim (tested (n == 4)) [
          | inl f ↦ rw (eqb-true n 4 f) refl
          | inr f ↦ elim (tested (n == 5)) [
            | inl g ↦ rw (eqb-true n 5 g) refl
            | inr g ↦
                let na = eqb-false n 0 a in
                let nb = eqb-false n 1 b in
                let nc = eqb-false n 2 c in
                let nd = eqb-false n 3 d in
                let nf = eqb-false n 4 f in
                let ng = eqb-false n 5 g in
                rw (le-ltb n 6 (omega (arith, na, nb, nc, nd, nf, ng)), a, b, c, d, f, g) refl
          ]
        ]
      ]
    ]
  ]
]

is_code_due : IsDue a_number code_in code_due
is_code_due = record { begins = λ k. refl; says = number_says (λ n. nat_lt n 6) code_in code_some (λ k. refl); own = λ k rest h n own e none. refl }

is_id_due : IsDue a_number id_in id_due
is_id_due = record { begins = λ k. refl; says = number_says (λ n. nat_lt 0 n && nat_lt n COUNT_LIMIT) id_in (λ n. some_if (nat_lt 0 n && nat_lt n COUNT_LIMIT) n) (λ k. refl); own = λ k rest h n own e none. refl }

is_count_due : (reason : Reason) → IsDue a_number count_in (count_due reason)
is_count_due reason = record { begins = λ k. refl; says = number_says (λ n. nat_lt n COUNT_LIMIT) count_in (λ n. some_if (nat_lt n COUNT_LIMIT) n) (λ k. refl); own = λ k rest h n own e none. refl }

source_says : (h : TokenHead) → says_source h ≡ is_some (meant a_number origin_in h)
source_says (token.Whole (pos n)) = some_if (n == 1) origin.Sender
source_says (token.Whole (negsuc k)) = some_if (k == 0) origin.Receiver
source_says token.Nil = refl
source_says (token.Flag v) = refl
source_says (token.Str n) = refl
source_says (token.Bin n) = refl
source_says (token.Array n) = refl
source_says (token.Map n) = refl

is_source_due : IsDue a_number origin_in source_due
is_source_due = record { begins = λ k. refl; says = source_says; own = λ k rest h n own e none. refl }

name_says : (h : TokenHead) → says_text h ≡ is_some (meant a_str (λ n. Some n) h)
name_says (token.Str n) = refl
name_says token.Nil = refl
name_says (token.Flag v) = refl
name_says (token.Whole z) = refl
name_says (token.Bin n) = refl
name_says (token.Array n) = refl
name_says (token.Map n) = refl

is_name_due : IsDue a_str (λ n. Some n) name_due
is_name_due = record { begins = λ k. refl; says = name_says; own = λ k rest h n own e none. refl }

-- a payload's length, where it is allowed
abbrev few : ℕ → Option ℕ
few n = cond (nat_lt MAX_PAYLOAD n) None (Some n)

payload_says : (h : TokenHead) → has_length (λ n. not (nat_lt MAX_PAYLOAD n)) h ≡ is_some (meant a_bin few h)
payload_says (token.Bin n) = unless (nat_lt MAX_PAYLOAD n) n
payload_says token.Nil = refl
payload_says (token.Flag v) = refl
payload_says (token.Whole z) = refl
payload_says (token.Str n) = refl
payload_says (token.Array n) = refl
payload_says (token.Map n) = refl

is_payload_due : IsDue a_bin few payload_due
is_payload_due = record { begins = λ k. refl; says = payload_says; own = λ k rest h n own e none. absurd (bin-own k rest h n own e none) }

-- ---- what a token that passed says

some_is : {A : Type 0} (x y : A) → Some x ≡ Some y → x ≡ y
some_is x y e = cc

count_is : (least n : ℕ) (has : Bool) → last_in least n ≡ Some has → (n == least + 1) ≡ has
count_is least n has e = elim (tested (n == least)) [
  | inl t ↦
      let f : false ≡ has = some_is false has (rw t at e) in
      let is = eqb-true n least t in
      let apart : n ≡ least + 1 → ⊥ = λ g. omega (arith, is, g) in
      elim (tested (n == least + 1)) [
        | inl u ↦ absurd (apart (eqb-true n (least + 1) u))
        | inr u ↦ u ∙ f
      ]
  | inr t ↦ elim (tested (n == least + 1)) [
    | inl u ↦ u ∙ some_is true has (rw (t, u) at e)
    | inr u ↦ let none : None ≡ Some has = rw (t, u) at e in absurd cc
  ]
]

array_has : (least : ℕ) (h : TokenHead) (has : Bool) → meant an_array (last_in least) h ≡ Some has → has_count (least + 1) h ≡ has
array_has least (token.Array n) has e = count_is least n has e
array_has least token.Nil has e = absurd cc
array_has least (token.Flag v) has e = absurd cc
array_has least (token.Whole z) has e = absurd cc
array_has least (token.Str n) has e = absurd cc
array_has least (token.Bin n) has e = absurd cc
array_has least (token.Map n) has e = absurd cc

code_is : (h : TokenHead) (c : Code) → meant a_number code_in h ≡ Some c → code_said h ≡ Some c
code_is (token.Whole (pos n)) c e = e
code_is (token.Whole (negsuc k)) c e = absurd cc
code_is token.Nil c e = absurd cc
code_is (token.Flag v) c e = absurd cc
code_is (token.Str n) c e = absurd cc
code_is (token.Bin n) c e = absurd cc
code_is (token.Array n) c e = absurd cc
code_is (token.Map n) c e = absurd cc

text_size : (h : TokenHead) (n : ℕ) → meant a_str (λ m. Some m) h ≡ Some n → body_size h ≡ n
text_size (token.Str m) n e = some_is m n e
text_size token.Nil n e = absurd cc
text_size (token.Flag v) n e = absurd cc
text_size (token.Whole z) n e = absurd cc
text_size (token.Bin m) n e = absurd cc
text_size (token.Array m) n e = absurd cc
text_size (token.Map m) n e = absurd cc

few_is : (m n : ℕ) → few m ≡ Some n → m ≡ n
few_is m n e = elim (tested (nat_lt MAX_PAYLOAD m)) [
  | inl t ↦ let none : None ≡ Some n = rw t at e in absurd cc
  | inr t ↦ some_is m n (rw t at e)
]

payload_size : (h : TokenHead) (n : ℕ) → meant a_bin few h ≡ Some n → body_size h ≡ n
payload_size (token.Bin m) n e = few_is m n e
payload_size token.Nil n e = absurd cc
payload_size (token.Flag v) n e = absurd cc
payload_size (token.Whole z) n e = absurd cc
payload_size (token.Str m) n e = absurd cc
payload_size (token.Array m) n e = absurd cc
payload_size (token.Map m) n e = absurd cc

-- ---- payloads

spoiled_numbered : (reason : Reason) (t : Bool) (h : TokenHead) (n : ℕ) → spoiled reason (cond t step.Short (step.Got h n)) ≡ reason
spoiled_numbered reason true h n = refl
spoiled_numbered reason false h n = refl

spoiled_is : (reason : Reason) (k : Kind) (rest : List ℕ) → spoiled reason (read_kind k rest) ≡ unwanted reason k
spoiled_is reason (refused r) rest = refl
spoiled_is reason (whole_head g) rest = refl
spoiled_is reason (unsigned w) rest = spoiled_numbered reason (ltb (length rest) (byte_len w)) (token.Whole (pos (from_be_bytes w (take (byte_len w) rest)))) (byte_len w + 1)
spoiled_is reason (signed w) rest = spoiled_numbered reason (ltb (length rest) (byte_len w)) (token.Whole (cast_signed w (from_be_bytes w (take (byte_len w) rest)))) (byte_len w + 1)
spoiled_is reason (str w) rest = spoiled_numbered reason (ltb (length rest) (byte_len w)) (token.Str (from_be_bytes w (take (byte_len w) rest))) (byte_len w + 1)
spoiled_is reason (bin w) rest = spoiled_numbered reason (ltb (length rest) (byte_len w)) (token.Bin (from_be_bytes w (take (byte_len w) rest))) (byte_len w + 1)
spoiled_is reason (array w) rest = spoiled_numbered reason (ltb (length rest) (byte_len w)) (token.Array (from_be_bytes w (take (byte_len w) rest))) (byte_len w + 1)
spoiled_is reason (map w) rest = spoiled_numbered reason (ltb (length rest) (byte_len w)) (token.Map (from_be_bytes w (take (byte_len w) rest))) (byte_len w + 1)

first_is : (n : ℕ) (r s : Reason) → s ≡ r → (let q : Refusal = Some (0, r) in q) ≡ Some (n - n, s)
first_is n r s e = at_offset 0 (n - n) r (omega arith) ∙ ap (λ t. let q : Refusal = Some (n - n, t) in q) (sym e)

end-refused : (reason : Reason) (p : Payload) (rest : List ℕ) → IsRefused (length rest) (ended reason (Ok (p, rest))) (end_refusal reason rest)
end-refused reason p [] = refl
end-refused reason p (b ∷ rest) =
    let some : (length (b ∷ rest) == 0) ≡ false = ne_eqb (length (b ∷ rest)) 0 (λ e. omega (arith, e)) in
    rw some (omega arith, first_is (length (b ∷ rest)) (unwanted reason (kind_of b)) (spoiled reason (head_of (b ∷ rest))) (spoiled_is reason (kind_of b) rest))

optional-refused : (has : Bool) (reason : Reason) (make : Option ℕ → Payload) (rest : List ℕ) → IsRefused (length rest) (ended reason (follow (optional_at has reason rest) (λ window. done (make window)))) (optional_refusal has reason rest)
unfolding optional_at
optional-refused false reason make rest = end-refused reason (make None) rest
optional-refused true reason make rest =
    rw (follow-assoc (inner_at a_number count_in reason rest) (λ n. done (Some n)) (λ window. done (make window)))
    (step-then (ended reason) (λ h y. meant a_number count_in h ≡ Some y) rest (closed reason (judged (count_due reason) rest)) (inner_at a_number count_in reason rest) (λ n. done (make (Some n))) (λ count. end_refusal reason) (λ f. refl)
    (inner-step a_number count_in (count_due reason) (is_count_due reason) is_sort-number refl rest) (λ h n m behind. end-refused reason (make (Some n)) behind))

-- a name is its head and so many bytes, of which it has all
name-step : (bytes : List ℕ) → Step (λ h y. Unit {0}) bytes (closed BadOffer (with_text BadName (judged name_due bytes) bytes)) (name_at bytes)
unfolding name_at inner_at
name-step bytes = named bytes (judged name_due bytes) (token_at a_str (λ n. Some n) BadOffer bytes) (token-step a_str (λ n. Some n) name_due is_name_due is_sort-str refl bytes)
  where
    textual : (bytes : List ℕ) (h : TokenHead) (n size : ℕ) → n ≤ length bytes → body_size h ≡ size → Step (λ h y. Unit {0}) bytes (closed BadOffer (text_judged BadName h n (drop n bytes))) (name_of (length bytes) size (drop n bytes))
    textual bytes h n size le e = elim (tested (ltb (length (drop n bytes)) size)) [
      | inl t ↦ rw (e, t) refl
      | inr t ↦
          let long : size ≤ length (drop n bytes) = ltb-false (length (drop n bytes)) size t in
          elim (tested (is_utf8 (take size (drop n bytes)))) [
            | inl u ↦ rw (e, t, u) (take size (drop n bytes), tt, omega (arith, long, length-drop n bytes), ap (λ (s : List ℕ). Ok (take size (drop n bytes), s)) (drop-drop size n bytes))
            | inr u ↦ rw (e, t, u) refl
          ]
    ]

    named : (bytes : List ℕ) (j : Judged TokenHead) (r : Reading ℕ) → Step (λ h y. meant a_str (λ n. Some n) h ≡ Some y) bytes j r → Step (λ h y. Unit {0}) bytes (closed BadOffer (with_text BadName j bytes)) (follow (inside (length bytes) BadOffer r) (name_of (length bytes)))
    named bytes (passes h n) r s = rw s.3 (textual bytes h n s.0 s.2 (text_size h s.0 s.1))
    named bytes cut r s = rw s refl
    named bytes (breaks reason) r s = rw s refl

offer-refused : (bytes : List ℕ) → IsRefused (length bytes) (ended BadOffer (offer_at bytes)) (offer_refusal bytes)
unfolding offer_at
offer-refused bytes =
    step-then (ended BadOffer) (λ h y. meant an_array (last_in 1) h ≡ Some y) bytes (closed BadOffer (judged (array_due 1 BadOffer) bytes)) (inner_at an_array (last_in 1) BadOffer bytes) _ (λ array. name_then (λ name. optional_refusal (has_count 2 array) BadOffer)) (λ f. refl)
    (inner-step an_array (last_in 1) (array_due 1 BadOffer) (is_array_due 1 BadOffer) is_sort-array refl bytes) (λ array has m rest.
    step-then (ended BadOffer) (λ h y. Unit {0}) rest (closed BadOffer (with_text BadName (judged name_due rest) rest)) (name_at rest) _ (λ name. optional_refusal (has_count 2 array) BadOffer) (λ f. refl)
    (name-step rest) (λ h name u behind. rw (array_has 1 array has m) (optional-refused has BadOffer (λ window. payload.Offer name window) behind)))

accepted-refused : (bytes : List ℕ) → IsRefused (length bytes) (ended BadAcceptance (accepted_at bytes)) (acceptance_refusal bytes)
unfolding accepted_at
accepted-refused bytes =
    step-then (ended BadAcceptance) (λ h y. meant an_array (last_in 0) h ≡ Some y) bytes (closed BadAcceptance (judged (array_due 0 BadAcceptance) bytes)) (inner_at an_array (last_in 0) BadAcceptance bytes) _ (λ array. optional_refusal (has_count 1 array) BadAcceptance) (λ f. refl)
    (inner-step an_array (last_in 0) (array_due 0 BadAcceptance) (is_array_due 0 BadAcceptance) is_sort-array refl bytes) (λ array has m rest.
    rw (array_has 0 array has m) (optional-refused has BadAcceptance (λ window. payload.Accepted window) rest))

processed-refused : (bytes : List ℕ) → IsRefused (length bytes) (ended BadProcessed (processed_at bytes)) (acknowledgement_refusal bytes)
unfolding processed_at
processed-refused bytes =
    step-then (ended BadProcessed) (λ h y. meant an_array (only 1) h ≡ Some y) bytes (closed BadProcessed (judged (one_due BadProcessed) bytes)) (inner_at an_array (only 1) BadProcessed bytes) _ (λ array. optional_refusal true BadProcessed) (λ f. refl)
    (inner-step an_array (only 1) (one_due BadProcessed) (is_one_due BadProcessed) is_sort-array refl bytes) (λ array one m rest.
    step-then (ended BadProcessed) (λ h y. meant a_number count_in h ≡ Some y) rest (closed BadProcessed (judged (count_due BadProcessed) rest)) (inner_at a_number count_in BadProcessed rest) _ (λ count. end_refusal BadProcessed) (λ f. refl)
    (inner-step a_number count_in (count_due BadProcessed) (is_count_due BadProcessed) is_sort-number refl rest) (λ h n k behind. end-refused BadProcessed (payload.Processed n) behind))

carried-refused : (c : Code) (bytes : List ℕ) → IsRefused (length bytes) (carried c bytes) (carried_refusal (Some c) bytes)
unfolding carried
carried-refused code.Offer bytes = offer-refused bytes
carried-refused code.OfferAccepted bytes = accepted-refused bytes
carried-refused code.Content bytes = refl
carried-refused code.ContentWritingCompleted bytes = refl
carried-refused code.ChannelTerminated bytes = refl
carried-refused code.ContentProcessed bytes = processed-refused bytes

placed-refused : {A : Type 0} (m total : ℕ) (rest : List ℕ) (r : Result A Fault) (q : Refusal) → total ≡ m + length rest → IsRefused m r q → IsRefused total (placed r rest) q
placed-refused m total rest (Ok x) q e h = h
placed-refused m total rest (Err Ends) q e h = h
placed-refused m total rest (Err (Breaks left reason)) q e h = (omega (arith, e, h.0), h.1 ∙ at_offset (m - left) (total - (left + length rest)) reason (omega (arith, e, h.0)))

body-refused : {A : Type 0} (carry : List ℕ → Result A Fault) (rule : List ℕ → Refusal) (n : ℕ) (rest : List ℕ) → ((bytes : List ℕ) → IsRefused (length bytes) (carry bytes) (rule bytes)) → IsRefused (length rest) (follow (bytes_at n rest) (λ bytes. placed (carry bytes))) (cond (nat_lt (length rest) n) None (rule (take n rest)))
unfolding bytes_at
body-refused carry rule n rest all = elim (tested (ltb (length rest) n)) [
  | inl t ↦ rw t refl
  | inr t ↦
      let long : n ≤ length rest = ltb-false (length rest) n t in
      rw t (placed-refused (length (take n rest)) (length rest) (drop n rest) (carry (take n rest)) (rule (take n rest)) (omega (arith, long, length-take n rest, length-drop n rest)) (all (take n rest)))
]

run-is : (total : ℕ) (r : Reading ℕ) → follow r (run_of total) ≡ follow (follow r (λ n. allowed total PayloadTooLong (few n))) (λ n. bytes_at n)
unfolding bytes_at
run-is total (Err fault) = refl
run-is total (Ok x) = elim (tested (nat_lt MAX_PAYLOAD x.0)) [
  | inl t ↦ rw t refl
  | inr t ↦ rw t refl
]

content-refused : (has : Bool) (c : Code) (bytes : List ℕ) → IsRefused (length bytes) (content_at has c bytes) (payload_refusal has (Some c) bytes)
unfolding content_at payload_at
content-refused false c bytes = placed-refused 0 (length bytes) bytes (carried c []) (carried_refusal (Some c) []) (omega arith) (carried-refused c [])
content-refused true c bytes =
    rw (run-is (length bytes) (head_at a_bin BadShape bytes), follow-assoc (follow (head_at a_bin BadShape bytes) (λ n. allowed (length bytes) PayloadTooLong (few n))) (λ n. bytes_at n) (λ body. placed (carried c body)))
    (step-then (λ (r : Reading Payload). r) (λ h y. meant a_bin few h ≡ Some y) bytes (judged payload_due bytes) (follow (head_at a_bin BadShape bytes) (λ n. allowed (length bytes) PayloadTooLong (few n))) _ (λ bin. body_refusal (Some c) (body_size bin)) (λ f. refl)
    (head-step a_bin few payload_due is_payload_due is_sort-bin bytes) (λ h n m rest. rw (payload_size h n m) (body-refused (carried c) (carried_refusal (Some c)) n rest (carried-refused c))))

-- ---- frames

sourced : (v : Version) (has : Bool) (c : Code) (make : Origin → Payload → Frame) (rest : List ℕ) → IsRefused (length rest) (follow (origin_at v rest) (λ o bytes. follow (content_at has c bytes) (λ content. done (make o content)))) (source_then v (payload_refusal has (Some c)) rest)
sourced version.One has c make rest = done-refused (length rest) (content_at has c rest) (make origin.ByParity) (payload_refusal has (Some c) rest) (content-refused has c rest)
sourced version.Two has c make rest = done-refused (length rest) (content_at has c rest) (make origin.ByParity) (payload_refusal has (Some c) rest) (content-refused has c rest)
sourced version.Three has c make rest =
    step-then (λ (r : Reading Frame). r) (λ h y. meant a_number origin_in h ≡ Some y) rest (judged source_due rest) (token_at a_number origin_in BadSource rest) _ (λ source. payload_refusal has (Some c)) (λ f. refl)
    (token-step a_number origin_in source_due is_source_due is_sort-number refl rest) (λ h o m bytes. done-refused (length bytes) (content_at has c bytes) (make o) (payload_refusal has (Some c) bytes) (content-refused has c bytes))

pub packed-refused : (v : Version) (bytes : List ℕ) → IsRefused (length bytes) (packed_at v bytes) (packed_refusal v bytes)
unfolding packed_at
packed-refused v bytes =
    step-then (λ (r : Reading Frame). r) (λ h y. meant an_array (last_in (elements v)) h ≡ Some y) bytes (judged (array_due (elements v) BadShape) bytes) (token_at an_array (last_in (elements v)) BadShape bytes) _ _ (λ f. refl)
    (token-step an_array (last_in (elements v)) (array_due (elements v) BadShape) (is_array_due (elements v) BadShape) is_sort-array refl bytes) (λ array has m rest.
    step-then (λ (r : Reading Frame). r) (λ h y. meant a_number code_in h ≡ Some y) rest (judged code_due rest) (token_at a_number code_in BadCode rest) _ _ (λ f. refl)
    (token-step a_number code_in code_due is_code_due is_sort-number refl rest) (λ number c k after.
    step-then (λ (r : Reading Frame). r) (λ h y. meant a_number id_in h ≡ Some y) after (judged id_due after) (token_at a_number id_in BadId after) _ _ (λ f. refl)
    (token-step a_number id_in id_due is_id_due is_sort-number refl after) (λ h id l behind.
    rw (array_has (elements v) array has m, code_is number c k) (sourced v has c (λ o content. record { code = c; id = id; origin = o; payload = content }) behind))))

-- ---- version 1

-- of the numbers below 6 that are not 5
below_five : (n : ℕ) → (n ≡ 5 → ⊥) → nat_lt n 5 ≡ nat_lt n 6
below_five n other = elim (tested (nat_lt n 5)) [
  | inl t ↦ let few = ltb-true n 5 t in t ∙ sym (lt-ltb n 6 (omega (arith, few)))
  | inr t ↦ let many = ltb-false n 5 t in t ∙ sym (le-ltb n 6 (omega (arith, many, other)))
]

plain_is : (o : Option Code) → (o ≡ Some code.ContentProcessed → ⊥) → is_some o ≡ is_some (plain_of o)
plain_is None other = refl
plain_is (Some code.Offer) other = refl
plain_is (Some code.OfferAccepted) other = refl
plain_is (Some code.Content) other = refl
plain_is (Some code.ContentWritingCompleted) other = refl
plain_is (Some code.ChannelTerminated) other = refl
plain_is (Some code.ContentProcessed) other = absurd (other refl)

plain_some : (n : ℕ) → nat_lt n 5 ≡ is_some (plain_code n)
plain_some n = elim (tested (n == 5)) [
  | inl t ↦ rw (eqb-true n 5 t) refl
  | inr t ↦
      let other = eqb-false n 5 t in
      below_five n other ∙ code_some n ∙ plain_is (code_of n) (λ e. other (code_of-found n code.ContentProcessed e))
]

id_some : (n : ℕ) → nat_lt 0 n ≡ is_some (plain_id n)
id_some n = elim (tested (n == 0)) [
  | inl t ↦ rw (eqb-true n 0 t) refl
  | inr t ↦ let other = eqb-false n 0 t in rw (t, lt-ltb 0 n (omega (arith, other))) refl
]

plain_carried-refused : (c : Code) (bytes : List ℕ) → IsRefused (length bytes) (plain_carried c bytes) (plain_carried_refusal (Some c) bytes)
unfolding plain_carried
plain_carried-refused code.Offer bytes = elim (tested (is_utf8 bytes)) [
  | inl t ↦ rw t refl
  | inr t ↦ rw t (omega arith, at_offset 0 (length bytes - length bytes) BadName (omega arith))
]
plain_carried-refused code.OfferAccepted bytes = refl
plain_carried-refused code.Content bytes = refl
plain_carried-refused code.ContentWritingCompleted bytes = refl
plain_carried-refused code.ChannelTerminated bytes = refl
plain_carried-refused code.ContentProcessed bytes = refl

plain_content-refused : (c : Code) (size : ℕ) (rest : List ℕ) → IsRefused (length rest) (plain_content_at c size rest) (plain_body_refusal (Some c) size rest)
unfolding plain_content_at
plain_content-refused c size rest = body-refused (plain_carried c) (plain_carried_refusal (Some c)) size rest (plain_carried-refused c)

pub plain-refused : (bytes : List ℕ) → IsRefused (length bytes) (plain_at bytes) (plain_refusal bytes)
unfolding plain_at
plain-refused bytes =
    step-then (λ (r : Reading Frame). r) (λ n y. plain_code n ≡ Some y) bytes (field_judged w8 (λ n. nat_lt n 5) BadCode bytes) (field_at w8 plain_code BadCode bytes) _ _ (λ f. refl)
    (field-step w8 (λ n. nat_lt n 5) plain_code BadCode plain_some bytes) (λ number c m rest.
    step-then (λ (r : Reading Frame). r) (λ n y. plain_id n ≡ Some y) rest (field_judged w32 (λ n. nat_lt 0 n) BadId rest) (field_at w32 plain_id BadId rest) _ _ (λ f. refl)
    (field-step w32 (λ n. nat_lt 0 n) plain_id BadId id_some rest) (λ h id k after.
    step-then (λ (r : Reading Frame). r) (λ n y. (let o : Option ℕ = Some n in o) ≡ Some y) after (field_judged w16 (λ n. true) BadShape after) (field_at w16 (λ n. Some n) BadShape after) _ _ (λ f. refl)
    (field-step w16 (λ n. true) (λ n. Some n) BadShape (λ n. refl) after) (λ size same l behind.
    rw (not_plain (code_of number) c m, some_is size same l) (done-refused (length behind) (plain_content_at c same behind) (λ content. record { code = c; id = id; origin = origin.ByParity; payload = content }) (plain_body_refusal (Some c) same behind) (plain_content-refused c same behind)))))

-- ---- the front

frame-refused : (v : Version) (bytes : List ℕ) → IsRefused (length bytes) (frame_at v bytes) (first_refusal v bytes)
unfolding first_refusal
frame-refused version.One bytes = plain-refused bytes
frame-refused version.Two bytes = packed-refused version.Two bytes
frame-refused version.Three bytes = packed-refused version.Three bytes

pub broken_first : (v : Version) (bytes : List ℕ) (offset : ℕ) (reason : Reason) → front v bytes ≡ Broken offset reason → first_refusal v bytes ≡ Some (offset, reason)
unfolding front
broken_first v bytes offset reason e = front_of-refused (length bytes) (frame_at v bytes) (first_refusal v bytes) offset reason (frame-refused v bytes) e

pub first_broken : (v : Version) (bytes : List ℕ) (offset : ℕ) (reason : Reason) → first_refusal v bytes ≡ Some (offset, reason) → front v bytes ≡ Broken offset reason
unfolding front
first_broken v bytes offset reason e = refused-front_of (length bytes) (frame_at v bytes) (first_refusal v bytes) offset reason (frame-refused v bytes) e

pub ruleset refusals = (broken_first, first_broken)
