use Rattle.std.proofs.Common.{◌≡◌}
use Rattle.std.specs.FinMap.{get}
use Rattle.std.specs.VecDeque.Iter.{deque_iter_rest}
use Rattle.terrain_base.specs.Book.{files_of}
use Rattle.terrain_base.proofs.sure_library.SureLibraryLibrary.fetch.Given as goal

abbrev pub invariant-loop-book : goal.invariant-loop-book
invariant-loop-book l = get (files_of l.fn.self.books.items) l.name ≡ get (files_of (deque_iter_rest l.book-iterator)) l.name
