-- For readers: a bay as contracts see it.
use Rattle.bay_log.specs.Logs.{LogView}
use Rattle.bay.specs.Views.{RoomView}

-- its room and its log
pub record BayView : Type 0 where
  pub room : RoomView
  pub log : LogView
