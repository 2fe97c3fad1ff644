-- The numbers of control codes.
use Rattle.std.specs.Prelude.{ℕ, Option, Some, None, ◌==◌, if◌then◌else◌}
use Rattle.wire_base.specs.declared.frame.Code.{Code}
use Rattle.wire_base.specs.declared.frame.Code.TheVariants as code

-- the number that stands for a code
abbrev pub code_number : Code → ℕ
code_number code.Offer = 0
code_number code.OfferAccepted = 1
code_number code.Content = 2
code_number code.ContentWritingCompleted = 3
code_number code.ChannelTerminated = 4
code_number code.ContentProcessed = 5

-- the code of a number, where it has one
abbrev pub code_of : ℕ → Option Code
code_of n =
    if n == 0 then Some code.Offer
    else if n == 1 then Some code.OfferAccepted
    else if n == 2 then Some code.Content
    else if n == 3 then Some code.ContentWritingCompleted
    else if n == 4 then Some code.ChannelTerminated
    else if n == 5 then Some code.ContentProcessed
    else None
