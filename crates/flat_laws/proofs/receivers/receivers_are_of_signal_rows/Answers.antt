use Rattle.flat_laws.proofs.ReceiverLaws.{frame_receivers, message_receivers}
use Rattle.flat_laws.proofs.receivers.receivers_are_of_signal_rows.Goals as goal

pub returns : goal.returns
returns c = record {
  frame = λ s frame. frame_receivers s frame;
  message = λ s row is. message_receivers s row is;
}
