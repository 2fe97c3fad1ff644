-- The laws of every version.
use Rattle.std.proofs.Common.{◌≡◌, ℕ, ◌≤◌, true, List, [], ◌∷◌, ◌++◌, length, take, refl, sym, ◌∙◌, arith, length-append}
use Rattle.std.proofs.lemmas.List.{append-nil}
use Rattle.wire_base.specs.declared.frame.Version.{Version}
use Rattle.wire_base.specs.declared.frame.Version.TheVariants as version
use Rattle.wire_base.specs.declared.frame.Frame.{Frame}
use Rattle.frame_text.specs.Frames.{fits, text}
use Rattle.frame_text.specs.Front.{Whole}
use Rattle.frame_text.specs.Reading.{front}
use Rattle.frame_text.specs.Spelling.{AreBytes, FrameIs}
use Rattle.frame_text.proofs.Again as packed
use Rattle.frame_text.proofs.Found as found
use Rattle.frame_text.proofs.Texts as texts
use Rattle.frame_text.proofs.Shortest as shortest
use Rattle.frame_text.proofs.Plain as plain

pub every_front_spelled : (v : Version) (bytes : List ℕ) (f : Frame) (size : ℕ) → front v bytes ≡ Whole f size → FrameIs v f (take size bytes)
every_front_spelled version.One bytes f size e = plain.plain_front_spelled bytes f size e
every_front_spelled version.Two bytes f size e = found.front_spelled version.Two bytes f size refl e
every_front_spelled version.Three bytes f size e = found.front_spelled version.Three bytes f size refl e

pub every_spelled_front : (v : Version) (f : Frame) (b rest : List ℕ) → FrameIs v f b → front v (b ++ rest) ≡ Whole f (length b)
every_spelled_front version.One f b rest is = plain.spelled_plain_front f b rest is
every_spelled_front version.Two f b rest is = packed.spelled_front version.Two f b rest refl is
every_spelled_front version.Three f b rest is = packed.spelled_front version.Three f b rest refl is

pub every_text_is : (v : Version) (f : Frame) → fits v f ≡ true → FrameIs v f (text v f)
every_text_is version.One f e = plain.plain_text_is f e
every_text_is version.Two f e = texts.text_is version.Two f refl e
every_text_is version.Three f e = texts.text_is version.Three f refl e

pub every_spelled_fits : (v : Version) (f : Frame) (b : List ℕ) → AreBytes b → FrameIs v f b → fits v f ≡ true
every_spelled_fits version.One f b h is = plain.spelled_plain_fits f b h is
every_spelled_fits version.Two f b h is = shortest.spelled_fits version.Two f b refl h is
every_spelled_fits version.Three f b h is = shortest.spelled_fits version.Three f b refl h is

pub every_front_fits : (v : Version) (bytes : List ℕ) (f : Frame) (size : ℕ) → AreBytes bytes → front v bytes ≡ Whole f size → fits v f ≡ true
every_front_fits v bytes f size h e = every_spelled_fits v f (take size bytes) (shortest.bytes-take size bytes h) (every_front_spelled v bytes f size e)

pub every_front-text : (v : Version) (f : Frame) (rest : List ℕ) → fits v f ≡ true → front v (text v f ++ rest) ≡ Whole f (length (text v f))
every_front-text v f rest e = every_spelled_front v f (text v f) rest (every_text_is v f e)

frame_is : (f g : Frame) (m n : ℕ) → Whole f m ≡ Whole g n → f ≡ g
frame_is f g m n e = cc

size_is : (f g : Frame) (m n : ℕ) → Whole f m ≡ Whole g n → m ≡ n
size_is f g m n e = cc

nothing : (more : List ℕ) → length more ≡ 0 → more ≡ []
nothing [] e = refl
nothing (x ∷ more) e = absurd (omega (arith, e))

-- a spelling that begins another is that one, of the same frame
pub one_spelling : (v : Version) (f g : Frame) (b more : List ℕ) → FrameIs v f b → FrameIs v g (b ++ more) → (f ≡ g) × (more ≡ [])
one_spelling v f g b more is other =
    let first = every_spelled_front v f b more is in
    let second : front v (b ++ more) ≡ Whole g (length (b ++ more)) = rw (append-nil (b ++ more)) at (every_spelled_front v g (b ++ more) [] other) in
    let both : Whole f (length b) ≡ Whole g (length (b ++ more)) = sym first ∙ second in
    let size = size_is f g (length b) (length (b ++ more)) both in
    (frame_is f g (length b) (length (b ++ more)) both, nothing more (omega (arith, size, length-append b more)))

-- no spelling is shorter than the text
pub text-shortest : (v : Version) (f : Frame) (b : List ℕ) → AreBytes b → FrameIs v f b → length (text v f) ≤ length b
text-shortest version.One f b h is = plain.plain_text-shortest f b is
text-shortest version.Two f b h is = shortest.packed_text-shortest version.Two f b refl h is
text-shortest version.Three f b h is = shortest.packed_text-shortest version.Three f b refl h is
