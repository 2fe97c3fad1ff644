use Rattle.std.proofs.Common.{◌≡◌, ◌≢◌, length, sym, arith}
use Rattle.std.proofs.lemmas.Bool.Decides.{nat_tests}
use Rattle.wire_base.specs.Tree.{items, trees_of}
use Rattle.text_words.proofs.ArgumentLists.{object_in-other}
use Rattle.text_words.proofs.json_texts.object.Goals as goal
use Rattle.text_words.proofs.json_texts.object.Goals.{in_default-as_slice-via-then-as_slice-lt2, in_default-as_slice-via-else-as_slice-lt2+else-this-lt3}

pub returns-in_default-as_slice : goal.returns-in_default-as_slice
returns-in_default-as_slice c =
    let other : length c.as_slice.result.now ≢ 2 = λ e. elim c.in_default-as_slice.branch [
      | in_default-as_slice-via-then-as_slice-lt2 w ↦ grind (arith, nat_tests)
      | in_default-as_slice-via-else-as_slice-lt2+else-this-lt3 w ↦ grind (arith, nat_tests)
    ] in
    let is : c.args.value.now ≡ items (trees_of c.as_slice.result.now) = cc in
    rw is (sym (object_in-other c.as_slice.result.now other))
