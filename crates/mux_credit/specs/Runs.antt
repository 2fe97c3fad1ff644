-- The credit law of a run.
use Rattle.std.specs.Prelude.{◌≡◌, ℕ, List, [], ◌∷◌, length, take, true}
use Rattle.wire_base.specs.declared.reason.Reason.TheVariants as reason
use Rattle.wire_base.specs.declared.state.Cause.TheVariants as cause
use Rattle.mux_items.specs.declared.channel.ChannelKey.{ChannelKey}
use Rattle.mux_items.specs.Bodies.{other_key}
use Rattle.mux_items.specs.Items.{Item, End}
use Rattle.mux_items.specs.Lists.{unread, is_live}
use Rattle.mux_items.specs.Order.{IsOrdered}
use Rattle.mux_run.specs.Run.{RunSide, runs, World, Terms, SideTerms, terms_at_a, terms_at_b, out, run}
use Rattle.mux_run.specs.Moments.{IsMomentIn}
use Rattle.mux_run.specs.Spending.{RunStep, run_through}
use Rattle.mux_run.specs.declared.steps.Step.{Step}
use Rattle.mux_credit.specs.Credit.{HasCredit, TakesNext, IsDelivered}

-- an end that ended by a refusal met its own nonce
abbrev pub IsEndedWell : SideTerms → List Item → Type 0
IsEndedWell w [] = Unit {0}
IsEndedWell w (End (cause.Refused place r) ∷ items) = (r ≡ reason.SameNonce) × (w.own ≡ w.peer) × IsEndedWell w items
IsEndedWell w (item ∷ items) = IsEndedWell w items

-- the way from y to x: each channel has its credit, its frames come in order, and x refuses none of them
pub record KeepsCreditWay (w : SideTerms) (x y : List Item) : Type 0 where
  pub credit : (c : ChannelKey) → HasCredit w.version c x y
  pub order : (c : ChannelKey) → IsOrdered w.version c y
  pub takes : TakesNext w.version x y
  pub well : IsEndedWell w x

-- both ways
pub record KeepsCredit (terms : Terms) (a b : List Item) : Type 0 where
  pub to_a : KeepsCreditWay (terms_at_a terms) a b
  pub to_b : KeepsCreditWay (terms_at_b terms) b a

-- x runs, all that y emitted was delivered to it, and nothing is unread there
pub record IsQuietSide (w : SideTerms) (x y : RunSide) : Type 0 where
  pub running : runs x ≡ true
  pub delivered : x.delivered ≡ length (out w.version w.peer y.items)
  pub read : (c : ChannelKey) → unread w.version c x.items ≡ []

-- so it is at both sides
pub record IsQuiet (terms : Terms) (w : World) : Type 0 where
  pub a : IsQuietSide (terms_at_a terms) w.a w.b
  pub b : IsQuietSide (terms_at_b terms) w.b w.a

-- on each channel that is live at both, all that was written at one was emitted, taken and handed over
pub record IsAllDelivered (terms : Terms) (w : World) : Type 0 where
  pub to_a : (c : ChannelKey) → is_live terms.version c w.a.items ≡ true → is_live terms.version (other_key c) w.b.items ≡ true → IsDelivered terms.version c w.a.items w.b.items
  pub to_b : (c : ChannelKey) → is_live terms.version c w.b.items ≡ true → is_live terms.version (other_key c) w.a.items ≡ true → IsDelivered terms.version c w.b.items w.a.items

-- credit is kept at every moment, and wherever a world after so many steps is quiet, all is delivered
pub record KeepsCreditIn (terms : Terms) (worlds : ℕ → World) : Type 0 where
  pub always : (a b : List Item) → IsMomentIn worlds a b → KeepsCredit terms a b
  pub quiet : (made : ℕ) → IsQuiet terms (worlds made) → IsAllDelivered terms (worlds made)

-- so it is in the run of these steps
abbrev pub KeepsCreditRun : Terms → List Step → Type 0
KeepsCreditRun terms steps = KeepsCreditIn terms (λ made. run terms (take made steps))

-- and so where ends are spent
abbrev pub KeepsCreditThrough : Terms → List RunStep → Type 0
KeepsCreditThrough terms steps = KeepsCreditIn terms (λ made. run_through terms (take made steps))
