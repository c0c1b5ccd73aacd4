pub mod ExplainLaid
