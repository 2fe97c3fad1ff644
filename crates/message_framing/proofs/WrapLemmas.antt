-- What is wrapped is read back.
use Rattle.std.proofs.Common.{◌≡◌, ℕ, ◌+◌, ◌-◌, ◌*◌, ◌/◌, ◌%◌, ◌^◌, ◌<◌, ◌≤◌, pos, false, List, [], ◌∷◌, ◌++◌, length, take, drop, Option, Some, None, option_map, option_and_then, Ok, decimal, refl, sym, ap, ap₂, ◌∙◌, append_assoc, append-nil, zero-add, take-append-drop, arith, length-append}
use Rattle.std.specs.Prelude.{codes}
use Rattle.std.specs.Int.{w32, cast_signed, from_be_bytes, to_be_bytes}
use Rattle.std.specs.List.{list_any}
use Rattle.std.proofs.lemmas.Bool.{le-ltb, lt-ltb, le-leb, ne_eqb, or_from}
use Rattle.std.proofs.lemmas.Fmt.{decimal_by_steps, length-decimal-le}
use Rattle.std.proofs.lemmas.Int.{to_z_pos}
use Rattle.std.proofs.lemmas.Nat.{from_be_bytes-to_be_bytes_4}
use Rattle.std.proofs.lemmas.List.{drop_at, take_at, length-take}
use Rattle.std.proofs.Math.Seq.{take-append-add, take-append_seam}
use Rattle.wire_base.specs.declared.limits.TheConstants.{MAX_BODY}
use Rattle.message_framing.specs.declared.reading.TheConstants.{MAX_HEADER}
use Rattle.message_framing.specs.declared.framing.Framing.{Framing}
use Rattle.message_framing.specs.declared.framing.Framing.TheVariants as framing
use Rattle.message_framing.specs.declared.front.Front.TheVariants.{Whole, Short}
use Rattle.message_framing.specs.Fields.{is_blank, is_foreign, onto_trimmed, trim_front, trim_back, digit_in, number_from, number_in, is_no_field, value_of}
use Rattle.message_framing.specs.Lines.{line_end, is_end, header_lines, IsLine, part}
use Rattle.message_framing.specs.Header.{with_number, with_line, told_at, length_at, header_of}
use Rattle.message_framing.specs.Front.{behind, by_header, length_in, header_front, length_front, front, IsMessage}
use Rattle.message_framing.specs.Wrapped.{head_text, wrapped}
use Rattle.message_framing.proofs.Parts.{has_end, is_line, part_is_header}
use Rattle.message_framing.proofs.HeaderLemmas.{header_is_part}
use Rattle.message_framing.proofs.FrontLemmas.{front_stays, front_cut}

-- ---- digits

abbrev AreDigits : List ℕ → Type 0
AreDigits [] = Unit {0}
AreDigits (b ∷ bytes) = (48 ≤ b) × (b ≤ 57) × AreDigits bytes

digit_is : (b : ℕ) → 48 ≤ b → b ≤ 57 → digit_in b ≡ Some (b - 48)
digit_is b low high = rw (le-leb 48 b low, le-leb b 57 high) refl

-- after a digit, or none
behind_digit : (o : Option ℕ) (f g : ℕ → Option ℕ) (m n : ℕ) → option_and_then f o ≡ Some m → ((x : ℕ) → f x ≡ Some m → g x ≡ Some n) → option_and_then g o ≡ Some n
behind_digit None f g m n e h = absurd cc
behind_digit (Some x) f g m n e h = h x e

some_number : (a b : ℕ) → Some a ≡ Some b → a ≡ b
some_number a b e = cc

push_digit : (n d : ℕ) (bytes : List ℕ) (m : ℕ) → number_from n bytes ≡ Some m → d < 10 → number_from n (bytes ++ (48 + d) ∷ []) ≡ Some (m * 10 + d)
push_digit n d [] m e lt =
    let same : n ≡ m = some_number n m e in
    rw (digit_is (48 + d) (omega arith) (omega arith)) (ap Some (omega (arith, same)))
push_digit n d (b ∷ bytes) m e lt =
    behind_digit (digit_in b) (λ x. number_from (n * 10 + x) bytes) (λ x. number_from (n * 10 + x) (bytes ++ (48 + d) ∷ [])) m (m * 10 + d) e (λ x f. push_digit (n * 10 + x) d bytes m f lt)

AreDigits-push : (bytes : List ℕ) (d : ℕ) → AreDigits bytes → d < 10 → AreDigits (bytes ++ (48 + d) ∷ [])
AreDigits-push [] d h lt = (omega arith, omega arith, tt)
AreDigits-push (b ∷ bytes) d h lt = (h.0, h.1, AreDigits-push bytes d h.2 lt)

-- digits that say a number
record Says (n : ℕ) (bytes : List ℕ) : Type 0 where
  pub number : number_from 0 bytes ≡ Some n
  pub digits : AreDigits bytes
  pub some : 0 < length bytes

decimal_says : (n : ℕ) → n < 2 ^ 64 → Says n (decimal n)
decimal_says n lt = decimal_by_steps Says
    (λ m small. record { number = let e : number_from 0 ((48 + m) ∷ []) ≡ Some (0 * 10 + m) = push_digit 0 m [] 0 refl small in e ∙ ap Some (zero-add m); digits = (omega arith, omega arith, tt); some = omega arith })
    (λ m ds big h. record {
      number = push_digit 0 (m % 10) ds (m / 10) h.number (omega arith) ∙ ap Some (omega arith);
      digits = AreDigits-push ds (m % 10) h.digits (omega arith);
      some = omega (arith, length-append ds ((48 + m % 10) ∷ []));
    })
    n lt

not_blank : (b : ℕ) → 48 ≤ b → is_blank b ≡ false
not_blank b low = rw (ne_eqb b 32 (λ e. omega arith), ne_eqb b 9 (λ e. omega arith)) refl

not_foreign : (b : ℕ) → 48 ≤ b → b ≤ 57 → is_foreign b ≡ false
not_foreign b low high = rw (ne_eqb b 9 (λ e. omega arith), le-ltb b 32 (omega arith), le-ltb 126 b (omega arith)) refl

none_foreign : (bytes : List ℕ) → AreDigits bytes → list_any is_foreign bytes ≡ false
none_foreign [] h = refl
none_foreign (b ∷ bytes) h = or_from (is_foreign b) (list_any is_foreign bytes) (not_foreign b h.0 h.1) (none_foreign bytes h.2)

front_stays_trimmed : (bytes : List ℕ) → AreDigits bytes → trim_front bytes ≡ bytes
front_stays_trimmed [] h = refl
front_stays_trimmed (b ∷ bytes) h = rw (not_blank b h.0) refl

back_stays_trimmed : (bytes : List ℕ) → AreDigits bytes → trim_back bytes ≡ bytes
back_stays_trimmed [] h = refl
back_stays_trimmed (b ∷ []) h = rw (not_blank b h.0) refl
back_stays_trimmed (b ∷ c ∷ bytes) h = ap (onto_trimmed b) (back_stays_trimmed (c ∷ bytes) h.2)

not_end : (b : ℕ) (bytes : List ℕ) → (b ≡ 13 → ⊥) → is_end (b ∷ bytes) ≡ false
not_end b [] other = refl
not_end b (c ∷ bytes) other = rw (ne_eqb b 13 other) refl

no_end_in : (bytes : List ℕ) → AreDigits bytes → has_end bytes ≡ false
no_end_in [] h = refl
no_end_in (b ∷ bytes) h = or_from (is_end (b ∷ bytes)) (has_end bytes) (not_end b bytes (λ e. omega (arith, h.0))) (no_end_in bytes h.2)

-- ---- the line of a length

abbrev line : List ℕ → List ℕ
line digits = codes "Content-Length: " ++ digits

module _ (digits : List ℕ) (n : ℕ) (says : Says n digits) (short : length digits ≤ 8) (some : 0 < n) (most : n ≤ MAX_BODY) where
  line_is_line : IsLine (line digits)
  line_is_line = is_line 67 (codes "ontent-Length: " ++ digits) (or_from (is_end (32 ∷ digits)) (has_end digits) (not_end 32 digits (λ e. omega arith)) (no_end_in digits says.digits))

  is_field : is_no_field (line digits) ≡ false
  is_field = rw (none_foreign digits says.digits) refl

  value_is : value_of (line digits) ≡ digits
  value_is = ap trim_back (front_stays_trimmed digits says.digits) ∙ back_stays_trimmed digits says.digits

  number_is : number_in digits ≡ Some n
  number_is = rw (lt-ltb 0 (length digits) says.some, le-leb (length digits) 8 short) says.number

  with_number_is : with_number None (Some n) ≡ Ok (Some n)
  with_number_is = rw (le-ltb MAX_BODY n most, ne_eqb n 0 (λ e. omega arith)) refl

  with_line_is : with_line None (line digits) ≡ Ok (Some n)
  with_line_is = rw is_field (ap (with_number None) (ap number_in value_is ∙ number_is) ∙ with_number_is)

  length_is : (header_of (line digits ∷ [])).length ≡ Ok n
  length_is = ap (λ told. length_at (0 + length (line digits) + 2) (told_at 0 told)) with_line_is

  part_length : length (part (line digits ∷ [])) ≤ MAX_HEADER
  part_length = omega (arith, length-append (codes "Content-Length: " ++ digits) (13 ∷ 10 ∷ 13 ∷ 10 ∷ []), short)

  found_header : (rest : List ℕ) → header_lines (take MAX_HEADER (part (line digits ∷ []) ++ rest)) ≡ Some (line digits ∷ [])
  found_header rest =
      let p = part (line digits ∷ []) in
      let count : MAX_HEADER ≡ length p + (MAX_HEADER - length p) = omega (arith, part_length) in
      ap header_lines (ap (λ k. take k (p ++ rest)) count ∙ take-append-add p rest (MAX_HEADER - length p))
      ∙ part_is_header (line digits ∷ []) (take (MAX_HEADER - length p) rest) (line_is_line, tt)

  header_is_whole : (rest : List ℕ) → n ≤ length rest → header_front (part (line digits ∷ []) ++ rest) ≡ Whole (length (part (line digits ∷ []))) n
  header_is_whole rest le =
      let p = part (line digits ∷ []) in
      let len = length (p ++ rest) in
      ap (λ o. by_header len (option_map header_of o)) (found_header rest)
      ∙ ap₂ (behind len) (header_is_part (line digits ∷ [])) length_is
      ∙ rw (le-ltb len (length p + n) (omega (arith, length-append p rest))) refl

-- ---- heads

head_is_part : (n : ℕ) → head_text framing.Header n ≡ part (line (decimal n) ∷ [])
unfolding head_text
head_is_part n = sym (append_assoc (codes "Content-Length: ") (decimal n) (line_end ++ line_end))

header_wrapped : (n : ℕ) (rest : List ℕ) → 0 < n → n ≤ MAX_BODY → n ≤ length rest → header_front (head_text framing.Header n ++ rest) ≡ Whole (length (head_text framing.Header n)) n
header_wrapped n rest some most le = rw (head_is_part n) (header_is_whole (decimal n) n (decimal_says n (omega arith)) (length-decimal-le 8 n (omega arith) (omega arith) (omega arith)) some most rest le)

length_in_range : (n : ℕ) → 0 < n → n ≤ MAX_BODY → length_in (pos n) ≡ Ok n
length_in_range n some most = rw (le-ltb MAX_BODY n most, ne_eqb n 0 (λ e. omega arith)) refl

length_wrapped : (n : ℕ) (rest : List ℕ) → 0 < n → n ≤ MAX_BODY → n ≤ length rest → length_front (head_text framing.Length n ++ rest) ≡ Whole (length (head_text framing.Length n)) n
unfolding head_text
length_wrapped n rest some most le =
    let bytes = to_be_bytes w32 n ++ rest in
    let number : cast_signed w32 (from_be_bytes w32 (to_be_bytes w32 n)) ≡ pos n = ap (cast_signed w32) (from_be_bytes-to_be_bytes_4 n (omega arith)) ∙ to_z_pos w32 n (omega arith) in
    rw (le-ltb (length bytes) 4 (omega arith)) (
    ap (λ z. behind (length bytes) 4 (length_in z)) number
    ∙ ap (behind (length bytes) 4) (length_in_range n some most)
    ∙ rw (le-ltb (length bytes) (4 + n) (omega arith)) refl)

head_whole : (f : Framing) (n : ℕ) (rest : List ℕ) → 0 < n → n ≤ MAX_BODY → n ≤ length rest → front f (head_text f n ++ rest) ≡ Whole (length (head_text f n)) n
unfolding front
head_whole framing.Header n rest some most le = header_wrapped n rest some most le
head_whole framing.Length n rest some most le = length_wrapped n rest some most le

-- ---- what is wrapped

regrouped : (f : Framing) (body more : List ℕ) → wrapped f body ++ more ≡ head_text f (length body) ++ (body ++ more)
regrouped f body more = append_assoc (head_text f (length body)) body more

pub wrapped_whole : (f : Framing) (body more : List ℕ) → 0 < length body → length body ≤ MAX_BODY → front f (wrapped f body ++ more) ≡ Whole (length (head_text f (length body))) (length body)
wrapped_whole f body more some most =
    ap (front f) (regrouped f body more) ∙ head_whole f (length body) (body ++ more) some most (omega (arith, length-append body more))

pub wrapped_body : (f : Framing) (body more : List ℕ) → take (length body) (drop (length (head_text f (length body))) (wrapped f body ++ more)) ≡ body
wrapped_body f body more =
    let head = head_text f (length body) in
    ap (λ (s : List ℕ). take (length body) (drop (length head) s)) (regrouped f body more)
    ∙ ap (λ (s : List ℕ). take (length body) s) (drop_at head (body ++ more) (length head) refl)
    ∙ take_at body more (length body) refl

pub wrapped_cut : (f : Framing) (body : List ℕ) (n : ℕ) → 0 < length body → length body ≤ MAX_BODY → n < length (wrapped f body) → front f (take n (wrapped f body)) ≡ Short
wrapped_cut f body n some most lt =
    let w = wrapped f body in
    let head = head_text f (length body) in
    let whole = ap (front f) (take-append-drop n w ∙ sym (append-nil w)) ∙ wrapped_whole f body [] some most in
    front_cut f (take n w) (drop n w) (length head) (length body) whole (omega (arith, length-take n w, length-append head body, lt))

-- ---- messages

len_is : (a b c d : ℕ) → Whole a b ≡ Whole c d → a + b ≡ c + d
len_is a b c d e = let p : a ≡ c = cc in let q : b ≡ d = cc in omega (arith, p, q)

pub apart : (f : Framing) (b c x y : List ℕ) → IsMessage f b → IsMessage f c → b ++ x ≡ c ++ y → b ≡ c
apart f b c x y h k e =
    let both : Whole h.start h.size ≡ Whole k.start k.size = sym (front_stays f b x h.start h.size h.whole) ∙ (ap (front f) e ∙ front_stays f c y k.start k.size k.whole) in
    let len : length b ≡ length c = omega (arith, len_is h.start h.size k.start k.size both, h.ends, k.ends) in
    sym (take-append_seam b x) ∙ ap₂ (λ n (s : List ℕ). take n s) len e ∙ take-append_seam c y
