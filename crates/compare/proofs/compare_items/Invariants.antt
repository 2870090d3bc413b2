use mathlib.Core.Path.{◌≡◌}
use lib.ListN.{length}
use Rattle.compare.specs.Walks.{changes_of, pairs_left}
use Rattle.compare.proofs.ListLaws.{Listed}
use Rattle.compare.proofs.compare_items.Given as goal

abbrev pub invariant-loop-n : goal.invariant-loop-n
invariant-loop-n l =
    record {
      end : l.n-iterator.a.end ≡ length (changes_of l.left l.right);
      listed : Listed (changes_of l.left l.right) l.n-iterator.a.start (pairs_left l.n-iterator.b) l.fn.list l.list;
    }
