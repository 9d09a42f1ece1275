-- What is true of the fields of news.
use Rattle.std.specs.Prelude.{◌≡◌, []}
use Rattle.edge_rule.specs.Telling.{NewsView}
use Rattle.edge_rule.specs.declared.news.News.TheInside.{Inside}

abbrev pub news_of : {A : Type 0} → Inside A → NewsView
news_of n = record { table = n.seat.table_id; front = n.seat.me.0.front }

pub record IsNews {A : Type 0} (n : Inside A) : Type 0 where
  pub hands : n.seat.me.0.hands ≡ []
  pub none_told : n.seat.me.0.told ≡ []
  pub empty : n.seat.me.1 ≡ []
