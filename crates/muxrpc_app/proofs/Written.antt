-- What one more write adds.
use Rattle.std.proofs.Common.{◌≡◌, ℕ, suc, ◌+◌, ◌<◌, List, ◌++◌, length, take, drop, get_or, Option, Some, None, Result, Ok, Err, refl, sym, ◌∙◌, ap, append_assoc, drop-cons}
use Rattle.std.proofs.Math.Seq.{take-add, take-append-add, take-append_seam, take-length}
use Rattle.std.proofs.lemmas.List.{take-append-drop}
use Rattle.std.proofs.lemmas.List.Concat.{flat_map-append}
use Rattle.std.specs.List.{flat_map}
use Rattle.std.specs.Prelude.{OnErr}
use Rattle.muxrpc_app.specs.Streams.{WroteFront}
use Rattle.std.specs.Io.KnownBytes.{append_known}

pub append_known-twice : (given : Option (List ℕ)) (xs ys : List ℕ) → append_known (append_known given xs) ys ≡ append_known given (xs ++ ys)
append_known-twice None xs ys = refl
append_known-twice (Some bytes) xs ys = ap Some (append_assoc bytes xs ys)

pub wrote_more : (given before now : Option (List ℕ)) (at count : ℕ) (bytes piece : List ℕ) → piece ≡ drop at bytes → before ≡ append_known given (take at bytes) → now ≡ append_known before (take count piece) → now ≡ append_known given (take (at + count) bytes)
wrote_more given before now at count bytes piece piece_is was is =
    is ∙ (ap (λ bs. append_known before (take count bs)) piece_is ∙ (ap (λ g. append_known g (take count (drop at bytes))) was ∙ (append_known-twice given (take at bytes) (take count (drop at bytes)) ∙ ap (append_known given) (sym (take-add at count bytes)))))

-- bytes that were all written are a front of themselves
pub wrote_all : {X E : Type 0} (r : Result X E) (given now : Option (List ℕ)) (bytes : List ℕ) → now ≡ append_known given bytes → OnErr r (WroteFront given now bytes)
wrote_all (Ok x) given now bytes is = tt
wrote_all (Err e) given now bytes is = (length bytes, is ∙ ap (append_known given) (sym (take-length bytes)))

-- a front of a part behind all before it is a front of the whole
front_of : (before part rest : List ℕ) (k : ℕ) → take (length before + length (take k part)) (before ++ (part ++ rest)) ≡ before ++ take k part
front_of before part rest k =
    take-append-add before (part ++ rest) (length (take k part))
    ∙ ap (λ bs. before ++ bs) (ap (take (length (take k part))) (ap (λ bs. bs ++ rest) (sym (take-append-drop k part)) ∙ append_assoc (take k part) (drop k part) rest) ∙ take-append_seam (take k part) (drop k part ++ rest))

parts_at : {X : Type 0} (f : X → List ℕ) (xs : List X) (i : ℕ) (d : X) → i < length xs → flat_map f xs ≡ flat_map f (take i xs) ++ (f (get_or xs i d) ++ flat_map f (drop (suc i) xs))
parts_at f xs i d within =
    ap (flat_map f) (sym (take-append-drop i xs)) ∙ (flat_map-append f (take i xs) (drop i xs) ∙ ap (λ ys. flat_map f (take i xs) ++ flat_map f ys) (drop-cons xs i d within))

-- where a part of several failed, a front of all is written
pub front_later : {X E R : Type 0} (r : Result R E) (f : X → List ℕ) (xs : List X) (i : ℕ) (d : X) (part : List ℕ) (given before now : Option (List ℕ)) → i < length xs → part ≡ f (get_or xs i d)
    → before ≡ append_known given (flat_map f (take i xs)) → WroteFront before now part → OnErr r (WroteFront given now (flat_map f xs))
front_later (Ok x) f xs i d part given before now within is was wrote = tt
front_later (Err e) f xs i d part given before now within is was wrote =
    let earlier = flat_map f (take i xs) in
    let rest = flat_map f (drop (suc i) xs) in
    let whole : flat_map f xs ≡ earlier ++ (part ++ rest) = parts_at f xs i d within ∙ ap (λ bs. earlier ++ (bs ++ rest)) (sym is) in (
      length earlier + length (take wrote.0 part),
      wrote.1
          ∙ (ap (λ g. append_known g (take wrote.0 part)) was
          ∙ (append_known-twice given earlier (take wrote.0 part)
          ∙ ap (append_known given) (sym (ap (take (length earlier + length (take wrote.0 part))) whole ∙ front_of earlier part rest wrote.0)))),
    )
