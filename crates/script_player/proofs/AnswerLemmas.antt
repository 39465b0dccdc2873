-- How one line is answered, or fails.
use Rattle.std.proofs.Common.{List, ℕ, Option, refl, inr}
use Rattle.script_player.specs.Playing.{Fails, IsInDoubt, fault_of_answer}
use Rattle.script_player.specs.Ways.{Course}
use Rattle.script_player.specs.declared.answerers.AnswerFault.{AnswerFault}
use Rattle.script_player.specs.declared.answerers.AnswerFault.TheVariants as Answering

-- where the answer is a fault
pub fails_in_doubt : {House : Type 0} (course : Course House) (text : List ℕ) (held : Option (List ℕ)) (fault : AnswerFault) →
    IsInDoubt course text → Fails course text held held (fault_of_answer fault)
fails_in_doubt course text held (Answering.Disk shard) doubt = (doubt, refl)
fails_in_doubt course text held Answering.Memory doubt = (inr doubt, refl)
