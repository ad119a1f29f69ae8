mod LifeLaws
mod PageLaws
