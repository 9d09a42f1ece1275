use Rattle.std.proofs.Common.{ℕ, List, refl, sym, ap, ◌∙◌, subst}
use Rattle.std.proofs.lemmas.Bool.{false≢true}
use Rattle.bay_log.specs.declared.line.Line.{Line}
use Rattle.bay_log.specs.Logs.{LogView}
use Rattle.bay.specs.Restoring.{IsOf, IsBack}
use Rattle.bay.proofs.Ended.{in_log_back}
use Rattle.bay.specs.Refusals.{IsWhyNotRestored, IsWhyNotBack}
use Rattle.bay.proofs.Refused.{why_no_place, why_room, handed_on}
use Rattle.bay.proofs.bay.Bay.resume.Goals as goal

pub returns-clause-back : goal.returns-clause-back
returns-clause-back c =
    let found = c.in_ok-found.found in let room = c.in_ok-room.room in let now = c.args.now in
    record {
      found = found;
      read = c.in_ok-found.ensures.lines;
      used_is = refl;
      its = subst (IsOf c.args.head) c.deref.ensures.value (c.is_of.ensures.0 c.if-not-is_of.false);
      log = c.in-Some.ensures.log;
      back = subst (λ (n : ℕ). IsBack found.lines.items c.args.limit c.args.most now n room) c.position.ensures.position
          (subst (λ (lines : List Line). IsBack lines c.args.limit c.args.most now c.position.result room) c.deref-2.ensures.value c.in_ok-room.ensures.back);
      classes_are = c.in_ok-room.ensures.terms.0;
      terms_are = c.in_ok-room.ensures.terms.1;
    }

pub invariant_of-result : goal.invariant_of-result
invariant_of-result c =
    let log = c.in-Some.log in let room = c.in_ok-room.room in let a = c.args in let position = c.position.result in
    in_log_back log a.limit a.most a.now position room c.look.ensures.book c.position.ensures.standing c.position.ensures.position
    (subst (λ (lines : List Line). IsBack lines a.limit a.most a.now position room)
    (c.deref-2.ensures.value ∙ sym (ap (λ (l : LogView). l.lines) c.in-Some.ensures.log)) c.in_ok-room.ensures.back)

pub returns-then-not-is_of-clause-why : goal.returns-then-not-is_of-clause-why
returns-then-not-is_of-clause-why c = (
  c.in_ok-found.found,
  c.in_ok-found.ensures.lines,
  λ h. false≢true (sym c.if-not-is_of.true ∙ c.is_of.ensures.1 (subst (IsOf c.args.head) (sym c.deref.ensures.value) h)),
)

pub returns-in_default-clause-why : goal.returns-in_default-clause-why
returns-in_default-clause-why c =
    let found = c.in_ok-found.found in
    let of = subst (IsOf c.args.head) c.deref.ensures.value (c.is_of.ensures.0 c.if-not-is_of.false) in
    why_no_place c.args.head c.args.bytes.now c.args.classes.items found c.in_ok-found.ensures.lines of (c.in_default.ensures.none.0 refl)

pub returns-in_err-room-clause-why : goal.returns-in_err-room-clause-why
returns-in_err-room-clause-why c =
    let found = c.in_ok-found.found in
    let of = subst (IsOf c.args.head) c.deref.ensures.value (c.is_of.ensures.0 c.if-not-is_of.false) in
    let why = why_room c.args.head c.args.bytes.now c.args.classes.items found c.in_err-room.field-0.0 c.in_ok-found.ensures.lines of
    (subst (λ (lines : List Line). IsWhyNotRestored c.args.classes.items lines c.in_err-room.field-0.0) c.deref-2.ensures.value c.in_err-room.ensures.why) in
    handed_on (IsWhyNotBack c.args.classes.items c.args.head c.args.bytes.now) c.from_residual-in_err-room.result c.in_err-room.field-0.0
    c.from_residual-in_err-room.ensures.1 why
