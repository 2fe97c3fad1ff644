-- Where the first bytes of frames end.
use Rattle.std.specs.Prelude.{◌≡◌, ◌<◌, ℕ, List, [], ◌∷◌, ◌++◌, length}
use Rattle.wire_base.specs.declared.frame.Version.{Version}
use Rattle.mux_items.specs.Bodies.{ChannelFrame, frame_text, frame_texts}

-- some first bytes of a text, not all
pub record IsProperFront (front text : List ℕ) : Type 0 where
  pub rest : List ℕ
  pub is : front ++ rest ≡ text
  pub more : 0 < length rest

-- bytes that begin the first of these frames; nothing where there is none
abbrev pub BeginsFirst : Version → List ℕ → List ChannelFrame → Type 0
BeginsFirst v part [] = part ≡ []
BeginsFirst v part (f ∷ fs) = IsProperFront part (frame_text v f)

-- bytes are the texts of so many whole frames, and then a part that begins the first of the others
pub record IsCut (v : Version) (bytes : List ℕ) (whole others : List ChannelFrame) : Type 0 where
  pub part : List ℕ
  pub is : bytes ≡ frame_texts v whole ++ part
  pub begins : BeginsFirst v part others
