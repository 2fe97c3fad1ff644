-- A frame's text, by its parts.
use Rattle.std.proofs.Common.{◌≡◌, ℕ, ◌+◌, ◌≤◌, ◌<◌, true, List, [], ◌∷◌, ◌++◌, length, Some, None, refl, sym, ◌∙◌, arith, append_assoc}
use Rattle.std.proofs.lemmas.Bool.{and_parts, leb-true}
use Rattle.std.proofs.lemmas.List.{append-nil}
use Rattle.wire_base.specs.declared.limits.TheConstants.{MAX_PAYLOAD}
use Rattle.wire_base.specs.declared.frame.Version.{Version}
use Rattle.wire_base.specs.declared.frame.Version.TheVariants as version
use Rattle.wire_base.specs.declared.frame.Frame.{Frame}
use Rattle.frame_text.specs.Codec.{is_packed, elements}
use Rattle.wire_base.specs.Shortest.{array_head, bin_head, unsigned_text}
use Rattle.frame_text.specs.Frames.{text, packed_text, fits, payload_text, str_text}
use Rattle.wire_base.specs.declared.frame.Payload.{Payload}
use Rattle.wire_base.specs.declared.frame.Payload.TheVariants as payload
use Rattle.wire_base.specs.Appends.{AppendsFront}
use Rattle.wire_base.proofs.AppendsLemmas.{appends_none, appends_first, appends_second, appends_both}
use Rattle.frame_pack.specs.Parts.{front_text}

text-packed : (v : Version) (f : Frame) → is_packed v ≡ true → text v f ≡ packed_text (elements v) f
text-packed version.One f e = absurd cc
text-packed version.Two f e = refl
text-packed version.Three f e = refl

empty-text : (n : ℕ) (f : Frame) (bytes : List ℕ) → payload_text f.payload ≡ bytes → length bytes ≡ 0 → packed_text n f ≡ front_text n f
empty-text n f [] p e = rw p (append-nil (front_text n f))
empty-text n f (b ∷ bytes) p e = absurd (omega (arith, e))

full-text : (n : ℕ) (f : Frame) (bytes : List ℕ) → payload_text f.payload ≡ bytes → 0 < length bytes → packed_text n f ≡ front_text (n + 1) f ++ (bin_head (length bytes) ++ bytes)
full-text n f [] p e = absurd (omega (arith, e))
full-text n f (b ∷ bytes) p e = rw p refl

pub text-empty : (v : Version) (f : Frame) (n : ℕ) → is_packed v ≡ true → n ≡ elements v → length (payload_text f.payload) ≡ 0 → front_text n f ≡ text v f
text-empty v f n p e h = rw e (sym (text-packed v f p ∙ empty-text (elements v) f (payload_text f.payload) refl h))

pub text-parts : (v : Version) (f : Frame) (n : ℕ) → is_packed v ≡ true → n ≡ elements v → 0 < length (payload_text f.payload) → front_text (n + 1) f ++ (bin_head (length (payload_text f.payload)) ++ payload_text f.payload) ≡ text v f
text-parts v f n p e h = rw e (sym (text-packed v f p ∙ full-text (elements v) f (payload_text f.payload) refl h))

pub text-full : (v : Version) (f : Frame) (n : ℕ) → is_packed v ≡ true → n ≡ elements v → 0 < length (payload_text f.payload) → (front_text (n + 1) f ++ bin_head (length (payload_text f.payload))) ++ payload_text f.payload ≡ text v f
text-full v f n p e h = append_assoc (front_text (n + 1) f) (bin_head (length (payload_text f.payload))) (payload_text f.payload) ∙ text-parts v f n p e h

pub fits-length : (v : Version) (f : Frame) → is_packed v ≡ true → fits v f ≡ true → length (payload_text f.payload) ≤ MAX_PAYLOAD
fits-length version.One f p e = absurd cc
fits-length version.Two f p e = leb-true (length (payload_text f.payload)) MAX_PAYLOAD (and_parts _ _ e).1
fits-length version.Three f p e = leb-true (length (payload_text f.payload)) MAX_PAYLOAD (and_parts _ _ e).1

-- ---- payloads that memory cut off

module _ (p : Payload) (name old head new : List ℕ) where
  pub name-cut : p ≡ payload.Offer name None → head ≡ old ++ array_head 1 → AppendsFront head new (str_text name) → AppendsFront old new (payload_text p)
  name-cut is e h = rw is (appends_second old head new (array_head 1) (str_text name) e h)

  pub name-cut_before_window : (n : ℕ) → p ≡ payload.Offer name (Some n) → head ≡ old ++ array_head 2 → AppendsFront head new (str_text name) → AppendsFront old new (payload_text p)
  name-cut_before_window n is e h = rw is (appends_first old new (array_head 2 ++ str_text name) (unsigned_text n) (appends_second old head new (array_head 2) (str_text name) e h))

  pub window-missing : (n : ℕ) (mid : List ℕ) → p ≡ payload.Offer name (Some n) → head ≡ old ++ array_head 2 → mid ≡ head ++ str_text name → new ≡ mid → AppendsFront old new (payload_text p)
  window-missing n mid is e f g =
      rw is (appends_second old mid new (array_head 2 ++ str_text name) (unsigned_text n) (appends_both old head mid (array_head 2) (str_text name) e f) (appends_none mid new (unsigned_text n) g))

pub ruleset writing = (text-empty, text-full, fits-length, append_assoc)
