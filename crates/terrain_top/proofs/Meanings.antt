-- The one meaning of words.
use Rattle.std.proofs.Common.{◌≡◌, ℕ, List, Option, Some, None, option_map, IfSome}
use Rattle.top_words.specs.declared.command.Command as coded
use Rattle.top_words.specs.Meant.{meant}
use Rattle.top_words.specs.Words.{Command, IsGood, Spells}
use Rattle.top_reply.specs.Top.{IsMeant}

pub means : (words : List (List ℕ)) (command : Option coded.Command) → IfSome command (λ c. Spells words (meant c))
    → ((c : Command) → Spells words c → option_map meant command ≡ Some c) → IsMeant words (option_map meant command)
means words (Some c) right all = right
means words None right all = λ c spells. absurd (cc (all c spells))

-- what is meant is good
pub good_meant : (words : List (List ℕ)) (command : Option coded.Command) → IfSome command (λ c. Spells words (meant c))
    → IfSome (option_map meant command) IsGood
good_meant words (Some c) right = right.good
good_meant words None right = tt
