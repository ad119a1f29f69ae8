use Rattle.std.proofs.Common.{Some, sym}
use Rattle.quantum.specs.flat_state.specs.declared.events.Decl.TheVariants as decls
use Rattle.board_laws.proofs.Declarations.{declared_told, descriptor_told, machine_told, word_told}
use Rattle.board_laws.proofs.declaring.a_declaration_is_told.Goals as goal

pub returns : goal.returns
returns c = record {
  machine = λ m c none nothing. machine_told m c none nothing;
  descriptor = λ m memory old new j d item as_told none its keeps shows. descriptor_told m memory memory old new j d as_told none keeps item its (shows (Some m) memory);
  rights = λ m memory old new j kernel group read write as_told none keeps shows. declared_told m memory memory old new j (decls.Right kernel group read write) as_told none keeps (sym (shows (Some m) memory));
  word = λ m memory c j frame offset value as_told none. word_told m memory c j frame offset value as_told none;
}
