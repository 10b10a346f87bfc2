mod HeadStored
mod Moving
