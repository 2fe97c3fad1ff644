use Rattle.std.proofs.Common.{ℕ, List}
use Rattle.mux_run.specs.Run.{RunSide, SideTerms}
use Rattle.endpoint_items.specs.Items.{EndItem}
use Rattle.duo_world.specs.Settling.{IsMidStep}
use Rattle.duo_world.proofs.Arriving.{IsUnderway}
use Rattle.duo_world.proofs.ends.settle.Given as goal

abbrev pub invariant-steps : goal.invariant-steps
invariant-steps l = (w : SideTerms) (d older : ℕ) (items : List EndItem) (y : RunSide) → IsMidStep w d older l.fn.own l.fn.events items y → IsUnderway w d older l.own l.events items y
