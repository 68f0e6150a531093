-- The elements of a short list, which are those that are meant.
use Rattle.std.specs.Prelude.{ℕ, List, take}
use Rattle.terms.specs.declared.short_list.ShortList.{ShortList}

abbrev pub elements : {T : Type 0} {N : ℕ} {g : _} → ShortList T N g → List T
elements s = take s.count s.places
