use Rattle.std.proofs.Common.{◌≡◌, true, List, subst}
use Rattle.std.specs.List.{AllByRecursion}
use Rattle.elf_image.specs.declared.images.Part.{Part}
use Rattle.elf_image.specs.Elf.{LiesIn, are_sized, parts_of}
use Rattle.elf_image.proofs.PartLemmas.{parts_lie}
use Rattle.elf_image.proofs.images.read.Goals as goal

pub returns-clause-within : goal.returns-clause-within
returns-clause-within c =
    let bytes = c.args.bytes.now in
    let headers = c.in_ok-headers.headers.items in
    let sized : are_sized bytes headers ≡ true = cc (c.are_sized.ensures, c.if-not-are_sized.false, c.deref.ensures.value) in
    let parts : parts_of headers ≡ c.in_ok-parts.parts.items = cc (c.in_ok-parts.ensures.found, c.deref-3.ensures.value) in
    let P : List Part → Type 0 = AllByRecursion (LiesIn bytes) in
    subst P parts (parts_lie bytes headers sized)
