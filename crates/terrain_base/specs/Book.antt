-- What a library in memory holds: of the books with a name the first counts.
use Rattle.std.specs.Prelude.{List, [], ◌∷◌}
use Rattle.std.specs.FinMap.{empty, insert}
use Rattle.terrain_base.specs.Library.{LibraryFiles}
use Rattle.terrain_base.specs.declared.sure_library.Book.{Book}

abbrev pub files_of : List Book → LibraryFiles
files_of [] = empty
files_of (book ∷ books) = insert (files_of books) book.name.items book.bytes.items
