-- What stands at the front of the bytes that an end didn't apply yet.
use Rattle.std.proofs.Common.{◌≡◌, ℕ, List, [], ◌∷◌, ◌++◌, length, refl, sym, ◌∙◌, ap, arith, length-append, append_assoc}
use Rattle.wire_base.specs.declared.frame.Version.{Version}
use Rattle.wire_base.specs.declared.frame.Version.TheVariants as version
use Rattle.frame_text.specs.Front.{Whole, Short}
use Rattle.frame_text.specs.Reading.{front, plain_at, field_at, packed_at, token_at, head_at}
use Rattle.frame_text.proofs.Laws.{front_cut, every_front-text}
use Rattle.std.proofs.lemmas.List.{append-nil}
use Rattle.mux_items.specs.Bodies.{ChannelFrame, frame_of, frame_text, frame_texts}
use Rattle.mux_run.proofs.Cuts.{IsCut, BeginsFirst}
use Rattle.mux_run.specs.Run.{SideTerms}
use Rattle.duo_world.proofs.Frames.{IsWritable, AreWritable}

front_nothing : (v : Version) → front v [] ≡ Short
unfolding front plain_at field_at packed_at token_at head_at
front_nothing version.One = refl
front_nothing version.Two = refl
front_nothing version.Three = refl

front_begun : (w : SideTerms) (part : List ℕ) (others : List ChannelFrame) → AreWritable w others → BeginsFirst w.version part others → front w.version part ≡ Short
front_begun w part [] s b = ap (front w.version) b ∙ front_nothing w.version
front_begun w part (f ∷ fs) s b =
    let v = w.version in
    let whole : front v (part ++ b.rest) ≡ Whole (frame_of v f) (length (frame_text v f)) = ap (front v) (b.is ∙ sym (append-nil (frame_text v f))) ∙ every_front-text v (frame_of v f) [] s.0.fits in
    front_cut v part b.rest (frame_of v f) (length (frame_text v f)) whole (omega (arith, b.more, ap length b.is, length-append part b.rest))

-- where no whole frame stands, the bytes are short
pub front_none : (w : SideTerms) (bytes : List ℕ) (others : List ChannelFrame) → AreWritable w others → IsCut w.version bytes [] others → front w.version bytes ≡ Short
front_none w bytes others s cut = ap (front w.version) cut.is ∙ front_begun w cut.part others s cut.begins

-- where one does, it is the front
pub front_some : (w : SideTerms) (bytes : List ℕ) (f : ChannelFrame) (fs others : List ChannelFrame) → IsWritable w f → IsCut w.version bytes (f ∷ fs) others
    → front w.version bytes ≡ Whole (frame_of w.version f) (length (frame_text w.version f))
front_some w bytes f fs others s cut =
    let v = w.version in
    ap (front v) (cut.is ∙ append_assoc (frame_text v f) (frame_texts v fs) cut.part) ∙ every_front-text v (frame_of v f) (frame_texts v fs ++ cut.part) s.fits
