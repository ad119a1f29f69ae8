use Rattle.std.proofs.Common.{◌≡◌, ℕ, ◌<◌, Option, Some, length, slice_get, refl, sym, ap, subst, ◌∙◌}
use Rattle.std.specs.Prelude.{unwrap_or}
use Rattle.std.proofs.lemmas.Bool.{false≢true}
use Rattle.std.proofs.lemmas.Option.{slice_get_within}
use Rattle.cache_ident.specs.declared.names.Name.TheVariants as name
use Rattle.flat_state.specs.Call.{answered}
use Rattle.flat_state.specs.Declaration.{declared}
use Rattle.flat_state.specs.State.{FlatState, with_thread}
use Rattle.phys_groups.specs.Translation.{without}
use Rattle.flat_machine.specs.flat_events.proofs.CallParts.{thread_stays}
use Rattle.board_laws.specs.run_journal.specs.Legal.{AreGood}
use Rattle.board_laws.specs.desc_stores.specs.Contents.{residents_of}
use Rattle.cached_machine.specs.Cached.{state_of}
use Rattle.cached_machine.proofs.CompleteLaws.{beside_aside, found_at, row_gone}
use Rattle.cached_machine.proofs.GoodLaws.{good_unanswered, not_good}
use Rattle.cached_machine.proofs.MadeLaws.{beside_onward}
use Rattle.cached_machine.proofs.machine.CachedMachine.complete.Goals as goal

pub make_declaration-requires : goal.make_declaration-requires
make_declaration-requires c =
    let m = c.args.self.now in
    let s = state_of m in
    let n = c.args.no.0 in
    let found = found_at s.threads n c.requires.there in
    let d = c.in-Declares.decl in
    let rs = residents_of m.held.contents in
    let left = ap (λ (o : Option FlatState). unwrap_or o s) (c.in-Declares.ensures.comes_of_it found.0 found.1) in
    record {
      fits = c.in-Declares.ensures.can_be_done;
      good = good_unanswered (declared s d) n found.0 (answered found.0 c.in-Declares.answer) rs (thread_stays s d n found.0 found.1) refl (subst (λ (u : FlatState). AreGood u rs) left c.requires.good);
    }

pub answer-requires-in-Declares : goal.answer-requires-in-Declares
answer-requires-in-Declares c =
    let s = state_of c.args.self.now in
    let n = c.args.no.0 in
    let found = found_at s.threads n c.requires.there in
    let d = c.in-Declares.decl in
    subst (λ (u : FlatState). n < length u.threads) (sym c.in_ok-make_declaration-in-Declares.ensures.ok.state)
    (slice_get_within (declared s d).threads n found.0 (thread_stays s d n found.0 found.1))

pub remove_row-requires-clause-absent : goal.remove_row-requires-clause-absent
remove_row-requires-clause-absent c =
    let m = c.args.self.now in
    let s = state_of m in
    let n = c.args.no.0 in
    let found = found_at s.threads n c.requires.there in
    let rs = residents_of m.held.contents in
    let space = c.in-Unmaps.space in
    let vpn = c.in-Unmaps.vpn in
    let u = answered found.0 0 in
    let left = ap (λ (o : Option FlatState). unwrap_or o s) (c.in-Unmaps.ensures.comes_of_it found.0 found.1) in
    not_good (with_thread (record s { rows = without space vpn.0 s.rows }) n u) rs (name.Mapping space vpn) (subst (λ (t : FlatState). AreGood t rs) left c.requires.good) (row_gone s space vpn n u)

pub returns-in_ok-carry_out-in-Nothing-clause-ok : goal.returns-in_ok-carry_out-in-Nothing-clause-ok
returns-in_ok-carry_out-in-Nothing-clause-ok c =
    let s = state_of c.args.self.now in
    let found = found_at s.threads c.args.no.0 c.requires.there in
    let done = c.in_ok-carry_out-in-Nothing.ensures in
    record {
      state = done.ok found.0 found.1 ∙ sym (ap (λ (o : Option FlatState). unwrap_or o s) (c.in-Nothing.ensures.comes_of_it found.0 found.1));
      beside = done.kept;
    }

pub returns-in-Refused-clause-ok : goal.returns-in-Refused-clause-ok
returns-in-Refused-clause-ok c =
    let m = c.args.self.now in
    let s = state_of m in
    let n = c.args.no.0 in
    let found = found_at s.threads n c.requires.there in
    record {
      state =
          c.answer.ensures.state found.0 found.1
          ∙ ap (λ (value : ℕ). with_thread s n (answered found.0 value)) c.refusal.ensures
          ∙ sym (ap (λ (o : Option FlatState). unwrap_or o s) (c.in-Refused.ensures.comes_of_it found.0 found.1));
      beside = beside_aside m c.answer.new.self c.answer.ensures.rest;
    }

pub returns-in_ok-make_declaration-in-Declares-clause-ok : goal.returns-in_ok-make_declaration-in-Declares-clause-ok
returns-in_ok-make_declaration-in-Declares-clause-ok c =
    let m = c.args.self.now in
    let s = state_of m in
    let n = c.args.no.0 in
    let found = found_at s.threads n c.requires.there in
    let d = c.in-Declares.decl in
    let mid = c.make_declaration.new.self in
    let made = c.in_ok-make_declaration-in-Declares.ensures.ok in
    let there = subst (λ (u : FlatState). slice_get u.threads n ≡ Some found.0) (sym made.state) (thread_stays s d n found.0 found.1) in
    record {
      state =
          c.answer-in-Declares.ensures.state found.0 there
          ∙ ap (λ (u : FlatState). with_thread u n (answered found.0 c.in-Declares.answer)) made.state
          ∙ sym (ap (λ (o : Option FlatState). unwrap_or o s) (c.in-Declares.ensures.comes_of_it found.0 found.1));
      beside = beside_onward m mid c.answer-in-Declares.new.self made.beside (beside_aside mid c.answer-in-Declares.new.self c.answer-in-Declares.ensures.rest);
    }

pub returns-in-Unmaps-clause-ok : goal.returns-in-Unmaps-clause-ok
returns-in-Unmaps-clause-ok c =
    let m = c.args.self.now in
    let s = state_of m in
    let n = c.args.no.0 in
    let found = found_at s.threads n c.requires.there in
    let mid = c.remove_row.new.self in
    let gone = c.remove_row.ensures.rows in
    let there = subst (λ (u : FlatState). slice_get u.threads n ≡ Some found.0) (sym gone) found.1 in
    record {
      state =
          c.answer-in-Unmaps.ensures.state found.0 there
          ∙ ap (λ (u : FlatState). with_thread u n (answered found.0 0)) gone
          ∙ sym (ap (λ (o : Option FlatState). unwrap_or o s) (c.in-Unmaps.ensures.comes_of_it found.0 found.1));
      beside = beside_onward m mid c.answer-in-Unmaps.new.self c.remove_row.ensures.kept (beside_aside mid c.answer-in-Unmaps.new.self c.answer-in-Unmaps.ensures.rest);
    }

-- only a call that is the thread's own affair wants memory for its output
pub returns-in_err-carry_out-in-Nothing-clause-enough : goal.returns-in_err-carry_out-in-Nothing-clause-enough
returns-in_err-carry_out-in-Nothing-clause-enough c = λ asks room sets.
    let found = found_at (state_of c.args.self.now).threads c.args.no.0 c.requires.there in
    absurd (asks found.0 found.1 (sym (c.in-Nothing.ensures.asked found.0 found.1)))

pub returns-in_err-make_declaration-in-Declares-clause-enough : goal.returns-in_err-make_declaration-in-Declares-clause-enough
returns-in_err-make_declaration-in-Declares-clause-enough c = λ asks room sets. absurd (false≢true (c.in_err-make_declaration-in-Declares.ensures.enough room sets))
