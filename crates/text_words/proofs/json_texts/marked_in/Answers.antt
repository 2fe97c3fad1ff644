use Rattle.std.proofs.Common.{◌≡◌, ◌≢◌, length, sym, arith}
use Rattle.std.proofs.lemmas.Bool.Decides.{nat_tests}
use Rattle.wire_base.specs.Tree.{pairs, pairs_of}
use Rattle.text_words.proofs.ArgumentLists.{marked_in-other}
use Rattle.text_words.proofs.json_texts.marked_in.Goals as goal
use Rattle.text_words.proofs.json_texts.marked_in.Goals.{in_default-as_slice-via-then-as_slice-lt1, in_default-as_slice-via-else-as_slice-lt1+else-this-lt2}

pub returns-in_default-as_slice : goal.returns-in_default-as_slice
returns-in_default-as_slice c =
    let other : length c.as_slice.result.now ≢ 1 = λ e. elim c.in_default-as_slice.branch [
      | in_default-as_slice-via-then-as_slice-lt1 w ↦ grind (arith, nat_tests)
      | in_default-as_slice-via-else-as_slice-lt1+else-this-lt2 w ↦ grind (arith, nat_tests)
    ] in
    let is : c.args.value.now ≡ pairs (pairs_of c.as_slice.result.now) = cc in
    rw is (sym (marked_in-other c.as_slice.result.now other))
