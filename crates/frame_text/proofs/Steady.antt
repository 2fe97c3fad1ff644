-- What was read stays so, whatever follows.
use Rattle.std.proofs.Common.{◌≡◌, ℕ, ◌+◌, ◌≤◌, ◌<◌, Bool, true, false, ltb, List, ◌++◌, length, Some, Ok, Err, refl, sym, subst, arith, length-append, inl, inr}
use Rattle.std.specs.Int.{w8, w16, w32}
use Rattle.std.proofs.lemmas.Bool.{ltb-false, le-ltb}
use Rattle.std.proofs.lemmas.List.{take-append-le, drop-append-le}
use Rattle.wire_base.specs.declared.limits.TheConstants.{MAX_PAYLOAD}
use Rattle.wire_base.specs.declared.reason.Reason.{Reason}
use Rattle.wire_base.specs.declared.reason.Reason.TheVariants.{BadCode, BadShape, BadId, BadSource}
use Rattle.wire_base.specs.declared.frame.Version.{Version}
use Rattle.wire_base.specs.declared.frame.Version.TheVariants as version
use Rattle.wire_base.specs.declared.frame.Code.{Code}
use Rattle.wire_base.specs.declared.frame.Origin.TheVariants as origin
use Rattle.wire_base.specs.declared.frame.Frame.{Frame}
use Rattle.wire_base.specs.declared.reading.Fault.TheVariants.{Ends, Breaks}
use Rattle.frame_text.specs.Codec.{elements}
use Rattle.frame_text.specs.Front.{Front, Whole, Short, Broken}
use Rattle.frame_text.specs.Reading.{Reading, follow, a_number, a_bin, an_array, head_at, token_at, code_in, id_in, origin_in, last_in, carried, placed, run_of, payload_at, content_at, origin_at, packed_at, field_at, bytes_at, plain_code, plain_id, plain_carried, plain_content_at, plain_at, frame_at, front}
use Rattle.wire_base.specs.Front.{front_of}
use Rattle.wire_base.proofs.TokenSorts.{is_sort-number, is_sort-bin, is_sort-array}
use Rattle.wire_base.proofs.TokenSteady.{IsSteady, Steady, steady-then, steady-done, head_at-steady, token_at-steady, field_at-steady, bytes_at-steady, placed-steady}
use Rattle.wire_base.proofs.TokenWithin.{tested}
use Rattle.wire_base.proofs.Fronts.{IsFrontSteady, front_of-steady, within-below, cut_short}
use Rattle.frame_text.proofs.Within.{is_front-within}

-- ---- a payload's bytes

run_of-steady : (total n : ℕ) (rest more : List ℕ) → IsSteady more (run_of total n rest) (run_of (total + length more) n (rest ++ more))
run_of-steady total n rest more =
    elim (tested (ltb MAX_PAYLOAD n)) [
      | inl e ↦ rw e refl
      | inr e ↦ elim (tested (ltb (length rest) n)) [
        | inl d ↦ rw (e, d) tt
        | inr d ↦
            let long : n ≤ length rest = ltb-false (length rest) n d in
            let still : ltb (length (rest ++ more)) n ≡ false = le-ltb (length (rest ++ more)) n (omega (arith, length-append rest more)) in
            rw (e, d, still, take-append-le n rest more long, drop-append-le n rest more long) refl
      ]
    ]

run-steady : (total : ℕ) (more : List ℕ) (r s : Reading ℕ) → IsSteady more r s → IsSteady more (follow r (run_of total)) (follow s (run_of (total + length more)))
run-steady total more (Ok x) s h = rw h (run_of-steady total x.0 x.1 more)
run-steady total more (Err Ends) s h = tt
run-steady total more (Err (Breaks left r)) s h = rw h refl

payload_at-steady : (present : Bool) → Steady (payload_at present)
unfolding payload_at
payload_at-steady false = record { at = λ bytes more. refl }
payload_at-steady true = record {
  at = λ bytes more. rw (length-append bytes more) (run-steady (length bytes) more (head_at a_bin BadShape bytes) (head_at a_bin BadShape (bytes ++ more)) ((head_at-steady a_bin BadShape is_sort-bin).at bytes more));
}

content_at-steady : (present : Bool) (c : Code) → Steady (content_at present c)
unfolding content_at
content_at-steady present c = steady-then (payload_at present) (λ bytes. placed (carried c bytes)) (payload_at-steady present) (λ bytes. placed-steady (carried c bytes))

-- ---- frames of versions 2 and 3

origin_at-steady : (v : Version) → Steady (origin_at v)
origin_at-steady version.One = steady-done origin.ByParity
origin_at-steady version.Two = steady-done origin.ByParity
origin_at-steady version.Three = token_at-steady a_number origin_in BadSource is_sort-number

packed_at-steady : (v : Version) → Steady (packed_at v)
unfolding packed_at
packed_at-steady v =
    steady-then (token_at an_array (last_in (elements v)) BadShape) _ (token_at-steady an_array (last_in (elements v)) BadShape is_sort-array) (λ has.
    steady-then (token_at a_number code_in BadCode) _ (token_at-steady a_number code_in BadCode is_sort-number) (λ c.
    steady-then (token_at a_number id_in BadId) _ (token_at-steady a_number id_in BadId is_sort-number) (λ id.
    steady-then (origin_at v) _ (origin_at-steady v) (λ source.
    steady-then (content_at has c) _ (content_at-steady has c) (λ content.
    steady-done (record { code = c; id = id; origin = source; payload = content }))))))

-- ---- frames of version 1

plain_content_at-steady : (c : Code) (size : ℕ) → Steady (plain_content_at c size)
unfolding plain_content_at
plain_content_at-steady c size = steady-then (bytes_at size) (λ bytes. placed (plain_carried c bytes)) (bytes_at-steady size) (λ bytes. placed-steady (plain_carried c bytes))

plain_at-steady : Steady plain_at
unfolding plain_at
plain_at-steady =
    steady-then (field_at w8 plain_code BadCode) _ (field_at-steady w8 plain_code BadCode) (λ c.
    steady-then (field_at w32 plain_id BadId) _ (field_at-steady w32 plain_id BadId) (λ id.
    steady-then (field_at w16 (λ n. Some n) BadShape) _ (field_at-steady w16 (λ n. Some n) BadShape) (λ size.
    steady-then (plain_content_at c size) _ (plain_content_at-steady c size) (λ content.
    steady-done (record { code = c; id = id; origin = origin.ByParity; payload = content })))))

-- ---- the front

frame_at-steady : (v : Version) → Steady (frame_at v)
frame_at-steady version.One = plain_at-steady
frame_at-steady version.Two = packed_at-steady version.Two
frame_at-steady version.Three = packed_at-steady version.Three

pub front-steady : (v : Version) (bytes more : List ℕ) → IsFrontSteady (front v bytes) (front v (bytes ++ more))
unfolding front
front-steady v bytes more =
    subst (λ n. IsFrontSteady (front_of (length bytes) (frame_at v bytes)) (front_of n (frame_at v (bytes ++ more)))) (sym (length-append bytes more))
    (front_of-steady (length bytes) more (frame_at v bytes) (frame_at v (bytes ++ more)) ((frame_at-steady v).at bytes more))

pub front_stays : (v : Version) (bytes more : List ℕ) (f : Frame) (size : ℕ) → front v bytes ≡ Whole f size → front v (bytes ++ more) ≡ Whole f size
front_stays v bytes more f size e = subst (λ (x : Front). IsFrontSteady x (front v (bytes ++ more))) e (front-steady v bytes more)

pub broken_stays : (v : Version) (bytes more : List ℕ) (offset : ℕ) (reason : Reason) → front v bytes ≡ Broken offset reason → front v (bytes ++ more) ≡ Broken offset reason
broken_stays v bytes more offset reason e = subst (λ (x : Front). IsFrontSteady x (front v (bytes ++ more))) e (front-steady v bytes more)

-- of less than a whole frame there are too few bytes to tell
pub front_cut : (v : Version) (a b : List ℕ) (f : Frame) (size : ℕ) → front v (a ++ b) ≡ Whole f size → length a < size → front v a ≡ Short
front_cut v a b f size e lt = cut_short (front v a) (front v (a ++ b)) f size (length a) (front-steady v a b) (within-below (length a) (front v a) (is_front-within v a)) e lt
