-- What a page that was asked for leaves of a quantum's steps.
use Rattle.std.proofs.Common.{◌≡◌, ap}
use Rattle.std.specs.Prelude.{Result, Ok, Err, OnErr, OnOk}
use Rattle.cache_ident.specs.declared.names.Vpn.{Vpn}
use Rattle.cache_board.specs.board_commits.specs.Commits.{IsPaged}
use Rattle.cache_board.specs.board_core.specs.Core.{Recorded}
use Rattle.cache_board.specs.board_threads.specs.declared.tickets.Ticket.{Ticket}
use Rattle.quantum.specs.Ahead.{Ahead}

-- whatever the answer is
pub same_steps : {A E : Type 0} (b : Recorded) (ticket : Ticket) (vpn : Vpn) (old new : Ahead) (answer : Result A E) → OnErr answer (new ≡ old) → OnOk answer (IsPaged b ticket vpn old new) → new.steps ≡ old.steps
same_steps b ticket vpn old new (Ok x) same paged = ap (λ (a : Ahead). a.steps) paged.views
same_steps b ticket vpn old new (Err why) same paged = ap (λ (a : Ahead). a.steps) same
