use Rattle.std.proofs.Common.{refl, inl, inr}
use Rattle.legal_steps.specs.State.{State}
use Rattle.legal_steps.specs.Legal.{May}
use Rattle.legal_steps.specs.declared.event.Event.TheVariants.{Thirst, Hunger, Sit, Leave, Drink, Reach, Quit, Retire, Withdraw}
use Rattle.edge_rule.specs.DeskView.{DeskView, known}
use Rattle.turns.specs.Acts.{Counts}
use Rattle.turns.proofs.Firsts.{refused, illegal}
use Rattle.session_layer.proofs.phase.first_due.Goals as goal

pub returns-then-may_quit-clause-first : goal.returns-then-may_quit-clause-first
returns-then-may_quit-clause-first g c =
    let d : DeskView = c.args.desk.now in
    let s : State = known d in
    inl ((c.may_quit.ensures.0 c.if-may_quit.true, tt), refl)

pub returns-then-may_reach-clause-first : goal.returns-then-may_reach-clause-first
returns-then-may_reach-clause-first g c = let d : DeskView = c.args.desk.now in let s : State = known d in inr (
  illegal d.plan s d.job c.args.waited (Quit d.job) (refused c.may_quit.result (May d.plan s (Quit d.job)) c.may_quit.ensures c.if-may_quit.false),
  inl ((c.may_reach.ensures.0 c.if-may_reach.true, tt), refl),
)

pub returns-then-may_drink-clause-first : goal.returns-then-may_drink-clause-first
returns-then-may_drink-clause-first g c = let d : DeskView = c.args.desk.now in let s : State = known d in inr (
  illegal d.plan s d.job c.args.waited (Quit d.job) (refused c.may_quit.result (May d.plan s (Quit d.job)) c.may_quit.ensures c.if-may_quit.false),
  inr (
    illegal d.plan s d.job c.args.waited (Reach d.job) (refused c.may_reach.result (May d.plan s (Reach d.job)) c.may_reach.ensures c.if-may_reach.false),
    inl ((c.may_drink.ensures.0 c.if-may_drink.true, tt), refl),
  ),
)

pub returns-then-withdraws-clause-first : goal.returns-then-withdraws-clause-first
returns-then-withdraws-clause-first g c = let d : DeskView = c.args.desk.now in let s : State = known d in inr (
  illegal d.plan s d.job c.args.waited (Quit d.job) (refused c.may_quit.result (May d.plan s (Quit d.job)) c.may_quit.ensures c.if-may_quit.false),
  inr (
    illegal d.plan s d.job c.args.waited (Reach d.job) (refused c.may_reach.result (May d.plan s (Reach d.job)) c.may_reach.ensures c.if-may_reach.false),
    inr (
      illegal d.plan s d.job c.args.waited (Drink d.job) (refused c.may_drink.result (May d.plan s (Drink d.job)) c.may_drink.ensures c.if-may_drink.false),
      inl (c.withdraws.ensures.0 c.if-withdraws.true, refl),
    ),
  ),
)

pub returns-then-may_leave-clause-first : goal.returns-then-may_leave-clause-first
returns-then-may_leave-clause-first g c = let d : DeskView = c.args.desk.now in let s : State = known d in inr (
  illegal d.plan s d.job c.args.waited (Quit d.job) (refused c.may_quit.result (May d.plan s (Quit d.job)) c.may_quit.ensures c.if-may_quit.false),
  inr (
    illegal d.plan s d.job c.args.waited (Reach d.job) (refused c.may_reach.result (May d.plan s (Reach d.job)) c.may_reach.ensures c.if-may_reach.false),
    inr (
      illegal d.plan s d.job c.args.waited (Drink d.job) (refused c.may_drink.result (May d.plan s (Drink d.job)) c.may_drink.ensures c.if-may_drink.false),
      inr (
        refused c.withdraws.result (Counts d.plan s d.job c.args.waited (Withdraw d.job)) c.withdraws.ensures c.if-withdraws.false,
        inl ((c.may_leave.ensures.0 c.if-may_leave.true, tt), refl),
      ),
    ),
  ),
)

pub returns-then-may_sit-clause-first : goal.returns-then-may_sit-clause-first
returns-then-may_sit-clause-first g c = let d : DeskView = c.args.desk.now in let s : State = known d in inr (
  illegal d.plan s d.job c.args.waited (Quit d.job) (refused c.may_quit.result (May d.plan s (Quit d.job)) c.may_quit.ensures c.if-may_quit.false),
  inr (
    illegal d.plan s d.job c.args.waited (Reach d.job) (refused c.may_reach.result (May d.plan s (Reach d.job)) c.may_reach.ensures c.if-may_reach.false),
    inr (
      illegal d.plan s d.job c.args.waited (Drink d.job) (refused c.may_drink.result (May d.plan s (Drink d.job)) c.may_drink.ensures c.if-may_drink.false),
      inr (
        refused c.withdraws.result (Counts d.plan s d.job c.args.waited (Withdraw d.job)) c.withdraws.ensures c.if-withdraws.false,
        inr (
          illegal d.plan s d.job c.args.waited (Leave d.job) (refused c.may_leave.result (May d.plan s (Leave d.job)) c.may_leave.ensures c.if-may_leave.false),
          inl ((c.may_sit.ensures.0 c.if-may_sit.true, tt), refl),
        ),
      ),
    ),
  ),
)

pub returns-then-may_thirst-clause-first : goal.returns-then-may_thirst-clause-first
returns-then-may_thirst-clause-first g c = let d : DeskView = c.args.desk.now in let s : State = known d in inr (
  illegal d.plan s d.job c.args.waited (Quit d.job) (refused c.may_quit.result (May d.plan s (Quit d.job)) c.may_quit.ensures c.if-may_quit.false),
  inr (
    illegal d.plan s d.job c.args.waited (Reach d.job) (refused c.may_reach.result (May d.plan s (Reach d.job)) c.may_reach.ensures c.if-may_reach.false),
    inr (
      illegal d.plan s d.job c.args.waited (Drink d.job) (refused c.may_drink.result (May d.plan s (Drink d.job)) c.may_drink.ensures c.if-may_drink.false),
      inr (
        refused c.withdraws.result (Counts d.plan s d.job c.args.waited (Withdraw d.job)) c.withdraws.ensures c.if-withdraws.false,
        inr (
          illegal d.plan s d.job c.args.waited (Leave d.job) (refused c.may_leave.result (May d.plan s (Leave d.job)) c.may_leave.ensures c.if-may_leave.false),
          inr (
            illegal d.plan s d.job c.args.waited (Sit d.job) (refused c.may_sit.result (May d.plan s (Sit d.job)) c.may_sit.ensures c.if-may_sit.false),
            inl ((c.may_thirst.ensures.0 c.if-may_thirst.true, tt), refl),
          ),
        ),
      ),
    ),
  ),
)

pub returns-then-may_hunger-clause-first : goal.returns-then-may_hunger-clause-first
returns-then-may_hunger-clause-first g c = let d : DeskView = c.args.desk.now in let s : State = known d in inr (
  illegal d.plan s d.job c.args.waited (Quit d.job) (refused c.may_quit.result (May d.plan s (Quit d.job)) c.may_quit.ensures c.if-may_quit.false),
  inr (
    illegal d.plan s d.job c.args.waited (Reach d.job) (refused c.may_reach.result (May d.plan s (Reach d.job)) c.may_reach.ensures c.if-may_reach.false),
    inr (
      illegal d.plan s d.job c.args.waited (Drink d.job) (refused c.may_drink.result (May d.plan s (Drink d.job)) c.may_drink.ensures c.if-may_drink.false),
      inr (
        refused c.withdraws.result (Counts d.plan s d.job c.args.waited (Withdraw d.job)) c.withdraws.ensures c.if-withdraws.false,
        inr (
          illegal d.plan s d.job c.args.waited (Leave d.job) (refused c.may_leave.result (May d.plan s (Leave d.job)) c.may_leave.ensures c.if-may_leave.false),
          inr (
            illegal d.plan s d.job c.args.waited (Sit d.job) (refused c.may_sit.result (May d.plan s (Sit d.job)) c.may_sit.ensures c.if-may_sit.false),
            inr (
              illegal d.plan s d.job c.args.waited (Thirst d.job)
                  (refused c.may_thirst.result (May d.plan s (Thirst d.job)) c.may_thirst.ensures c.if-may_thirst.false),
              inl ((c.may_hunger.ensures.0 c.if-may_hunger.true, tt), refl),
            ),
          ),
        ),
      ),
    ),
  ),
)

pub returns-then-may_retire-clause-first : goal.returns-then-may_retire-clause-first
returns-then-may_retire-clause-first g c = let d : DeskView = c.args.desk.now in let s : State = known d in inr (
  illegal d.plan s d.job c.args.waited (Quit d.job) (refused c.may_quit.result (May d.plan s (Quit d.job)) c.may_quit.ensures c.if-may_quit.false),
  inr (
    illegal d.plan s d.job c.args.waited (Reach d.job) (refused c.may_reach.result (May d.plan s (Reach d.job)) c.may_reach.ensures c.if-may_reach.false),
    inr (
      illegal d.plan s d.job c.args.waited (Drink d.job) (refused c.may_drink.result (May d.plan s (Drink d.job)) c.may_drink.ensures c.if-may_drink.false),
      inr (
        refused c.withdraws.result (Counts d.plan s d.job c.args.waited (Withdraw d.job)) c.withdraws.ensures c.if-withdraws.false,
        inr (
          illegal d.plan s d.job c.args.waited (Leave d.job) (refused c.may_leave.result (May d.plan s (Leave d.job)) c.may_leave.ensures c.if-may_leave.false),
          inr (
            illegal d.plan s d.job c.args.waited (Sit d.job) (refused c.may_sit.result (May d.plan s (Sit d.job)) c.may_sit.ensures c.if-may_sit.false),
            inr (
              illegal d.plan s d.job c.args.waited (Thirst d.job)
                  (refused c.may_thirst.result (May d.plan s (Thirst d.job)) c.may_thirst.ensures c.if-may_thirst.false),
              inr (
                illegal d.plan s d.job c.args.waited (Hunger d.job)
                    (refused c.may_hunger.result (May d.plan s (Hunger d.job)) c.may_hunger.ensures c.if-may_hunger.false),
                inl ((c.may_retire.ensures.0 c.if-may_retire.true, tt), refl),
              ),
            ),
          ),
        ),
      ),
    ),
  ),
)

pub returns-clause-first : goal.returns-clause-first
returns-clause-first g c = let d : DeskView = c.args.desk.now in let s : State = known d in inr (
  illegal d.plan s d.job c.args.waited (Quit d.job) (refused c.may_quit.result (May d.plan s (Quit d.job)) c.may_quit.ensures c.if-may_quit.false),
  inr (
    illegal d.plan s d.job c.args.waited (Reach d.job) (refused c.may_reach.result (May d.plan s (Reach d.job)) c.may_reach.ensures c.if-may_reach.false),
    inr (
      illegal d.plan s d.job c.args.waited (Drink d.job) (refused c.may_drink.result (May d.plan s (Drink d.job)) c.may_drink.ensures c.if-may_drink.false),
      inr (
        refused c.withdraws.result (Counts d.plan s d.job c.args.waited (Withdraw d.job)) c.withdraws.ensures c.if-withdraws.false,
        inr (
          illegal d.plan s d.job c.args.waited (Leave d.job) (refused c.may_leave.result (May d.plan s (Leave d.job)) c.may_leave.ensures c.if-may_leave.false),
          inr (
            illegal d.plan s d.job c.args.waited (Sit d.job) (refused c.may_sit.result (May d.plan s (Sit d.job)) c.may_sit.ensures c.if-may_sit.false),
            inr (
              illegal d.plan s d.job c.args.waited (Thirst d.job)
                  (refused c.may_thirst.result (May d.plan s (Thirst d.job)) c.may_thirst.ensures c.if-may_thirst.false),
              inr (
                illegal d.plan s d.job c.args.waited (Hunger d.job)
                    (refused c.may_hunger.result (May d.plan s (Hunger d.job)) c.may_hunger.ensures c.if-may_hunger.false),
                inr (
                  illegal d.plan s d.job c.args.waited (Retire d.job)
                      (refused c.may_retire.result (May d.plan s (Retire d.job)) c.may_retire.ensures c.if-may_retire.false),
                  refl,
                ),
              ),
            ),
          ),
        ),
      ),
    ),
  ),
)

pub returns-then-may_quit-clause-may : goal.returns-then-may_quit-clause-may
returns-then-may_quit-clause-may g c = c.may_quit.ensures.0 c.if-may_quit.true

pub returns-then-may_reach-clause-may : goal.returns-then-may_reach-clause-may
returns-then-may_reach-clause-may g c = c.may_reach.ensures.0 c.if-may_reach.true

pub returns-then-may_drink-clause-may : goal.returns-then-may_drink-clause-may
returns-then-may_drink-clause-may g c = c.may_drink.ensures.0 c.if-may_drink.true

pub returns-then-withdraws-clause-may : goal.returns-then-withdraws-clause-may
returns-then-withdraws-clause-may g c = (c.withdraws.ensures.0 c.if-withdraws.true).0

pub returns-then-may_leave-clause-may : goal.returns-then-may_leave-clause-may
returns-then-may_leave-clause-may g c = c.may_leave.ensures.0 c.if-may_leave.true

pub returns-then-may_sit-clause-may : goal.returns-then-may_sit-clause-may
returns-then-may_sit-clause-may g c = c.may_sit.ensures.0 c.if-may_sit.true

pub returns-then-may_thirst-clause-may : goal.returns-then-may_thirst-clause-may
returns-then-may_thirst-clause-may g c = c.may_thirst.ensures.0 c.if-may_thirst.true

pub returns-then-may_hunger-clause-may : goal.returns-then-may_hunger-clause-may
returns-then-may_hunger-clause-may g c = c.may_hunger.ensures.0 c.if-may_hunger.true

pub returns-then-may_retire-clause-may : goal.returns-then-may_retire-clause-may
returns-then-may_retire-clause-may g c = c.may_retire.ensures.0 c.if-may_retire.true
