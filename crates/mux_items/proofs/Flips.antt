-- A channel and its frames as the other end names them.
use Rattle.std.specs.Prelude.{List, [], ◌∷◌, ◌++◌, map, Bool, true, false, not, if◌then◌else◌}
use Rattle.std.proofs.Common.{◌≡◌, refl, ◌∙◌, ap, ap₂}
use Rattle.mux_items.specs.declared.channel.ChannelKey.{ChannelKey}
use Rattle.mux_items.specs.Bodies.{ChannelFrame, other_key, flip}
use Rattle.mux_items.specs.Due.{content_of, content_on, contents}
use Rattle.mux_items.proofs.Keys.{same_key_other}

not_not : (b : Bool) → not (not b) ≡ b
not_not true = refl
not_not false = refl

pub other_other : (c : ChannelKey) → other_key (other_key c) ≡ c
other_other c = ap (λ own. record { id = c.id; own = own }) (not_not c.own)

pub flip_flip : (f : ChannelFrame) → flip (flip f) ≡ f
flip_flip f = ap (λ key. record { key = key; body = f.body }) (other_other f.key)

pub flips_flip : (fs : List ChannelFrame) → map flip (map flip fs) ≡ fs
flips_flip [] = refl
flips_flip (f ∷ fs) = ap₂ (λ g gs. g ∷ gs) (flip_flip f) (flips_flip fs)

-- the content of a channel's frames is the same
pub contents-flip : (c : ChannelKey) (fs : List ChannelFrame) → contents (other_key c) (map flip fs) ≡ contents c fs
contents-flip c [] = refl
contents-flip c (f ∷ fs) =
    ap (λ b. (if b then content_of f.body else []) ++ contents (other_key c) (map flip fs)) (same_key_other f.key c)
    ∙ ap (λ bs. content_on c f ++ bs) (contents-flip c fs)
