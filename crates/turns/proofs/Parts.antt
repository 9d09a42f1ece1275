-- Lists of events one after another.
use Rattle.turns.specs.Locality.{LeadsOn, IsLegalInParts}
use Rattle.turns.proofs.Runs.{after_all-append, legal-append, legal-begins, legal-goes_on}

pub leads_on : LeadsOn
leads_on plan s a b = after_all-append plan s a b

pub is_legal_in_parts : IsLegalInParts
is_legal_in_parts plan s a b = (λ legal. (legal-begins plan s a b legal, legal-goes_on plan s a b legal), λ both. legal-append plan s a b both.0 both.1)
