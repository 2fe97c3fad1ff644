-- Sequences with pages that can all be written.
use Rattle.std.specs.Prelude.{ℕ, List, [], ◌∷◌}
use Rattle.wire_base.specs.Tree.{Tree}
use Rattle.rpc_items.specs.Bodies.{Encoder}
use Rattle.rpc_items.specs.Fitting.{Fits}
use Rattle.rpc_items.specs.Pages.{page_values}
use Rattle.enumerables.specs.declared.sequence.Sequence.{Sequence}

-- each of these pages can be written in every response
abbrev pub AllFit : Encoder → List Tree → Type 0
AllFit k [] = Unit {0}
AllFit k (page ∷ pages) = Fits k page × AllFit k pages

-- so can each page of what is left of each sequence
abbrev pub PagesFit : Encoder → List Sequence → Type 0
PagesFit k [] = Unit {0}
PagesFit k (s ∷ sequences) = ((most : ℕ) → AllFit k (page_values most s.page s.left)) × PagesFit k sequences
